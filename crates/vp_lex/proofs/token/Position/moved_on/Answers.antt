use Rattle.std.proofs.Common.{ℕ, Bool, ◌&&◌, ◌||◌, sym, ◌∙◌, ap, get_or, arith}
use Rattle.std.specs.Prelude.{not, slice_range}
use Rattle.std.specs.List.{list_all}
use Rattle.vp_lex.specs.Bytes.{is_newline}
use Rattle.vp_lex.specs.Scanning.{kind_of}
use Rattle.vp_lex.specs.Tokens.{is_mark}
use Rattle.vp_lex.proofs.Places.{all_more, both_join}
use Rattle.vp_lex.proofs.token.Position.moved_on.Goals as goal

pub loop-here-preserved : goal.loop-here-preserved
loop-here-preserved c =
    let p : ℕ → Bool = λ byte. not (is_newline byte) in
    let text = c.args.bytes.now in
    let start : ℕ = c.args.self.at in
    let at : ℕ = c.loop-here.here.at in
    let mark : Bool = is_mark (kind_of c.args.kind) || c.args.self.directive in
    let next = c.after_byte-here.ensures in
    let more = all_more p text start at (omega arith) (omega arith) in
    record {
      begun = omega arith;
      within = omega arith;
      place = next.place;
      directive =
          next.directive ∙ ap (λ (d : Bool). d && p (get_or text at 0)) c.loop-here.invariant.directive
          ∙ both_join mark (list_all p (slice_range text start at)) (p (get_or text at 0)) ∙ ap (λ (v : Bool). mark && v) (sym more)
          ∙ ap (λ (n : ℕ). mark && list_all p (slice_range text start n)) (sym next.at);
    }
