use Rattle.std.proofs.Common.{◌∙◌, ◌++◌, ◌∷◌, [], List, ℕ, ap, cond, lit<, refl}
use Rattle.std.specs.Prelude.{codes, is_ok, string_bytes}
use Rattle.std.specs.List.{repeat}
use Rattle.std.specs.Option.{option_to_list}
use Rattle.vp_pragma.specs.Rights.{set_of}
use Rattle.vp_elab.specs.Tree.{type_name}
use Rattle.vp_elab.proofs.FullNames.{name_pushed}
use Rattle.vp_policy.specs.declared.view.SeenObject.{SeenObject}
use Rattle.vp_replay.specs.OutlinedObjects.{object_line}
use Rattle.vp_replay.specs.Outline.{access_text, closed_words, envelope_words, width_words, words_text}
use Rattle.vp_replay.proofs.Writing.{AddsWords, line_written}
use Rattle.vp_replay.proofs.lines.push_object.Goals as goal

pub returns : goal.returns
returns c =
    let o : SeenObject = c.args.object.now in
    let old : List ℕ = string_bytes c.args.text.now in
    let last : List ℕ = string_bytes c.push_closed.new.line in
    let indentation : List ℕ = repeat c.args.above (codes "  ") in
    let words : AddsWords old indentation o.name (type_name o.kind) (access_text (set_of o.rights)) (width_words o.kind o.width) (option_to_list o.definition) (envelope_words o.envelope) (closed_words o.closed) (last ++ 10 ∷ []) =
    record {
      after_indentation = string_bytes c.push_str.new.self;
      after_name = string_bytes c.push_str-2.new.self;
      after_type = string_bytes c.push_word.new.line;
      after_width = string_bytes c.push_width.new.line;
      after_definition = string_bytes c.push_definition.new.text;
      after_access = string_bytes c.push_access.new.line;
      after_envelope = string_bytes c.push_envelope.new.line;
      after_closed = last;
      indents = (c.in_ok-push_str.ensures {u = tt}).bytes ∙ ap (λ (x : List ℕ). old ++ x) (c.as_str.ensures.value ∙ (c.in_ok-repeat.ensures {u = tt}).bytes);
      names = (c.in_ok-push_str-2.ensures {u = tt}).bytes ∙ ap (λ (x : List ℕ). string_bytes c.push_str.new.self ++ x) c.as_str-2.ensures;
      types = c.in_ok-push_word.ensures {u = tt} ∙ ap (λ (x : List ℕ). string_bytes c.push_str-2.new.self ++ 32 ∷ x) c.type_name.ensures;
      sizes = c.in_ok-push_width.ensures {u = tt};
      defines = c.in_ok-push_definition.ensures {u = tt};
      opens = c.in_ok-push_access.ensures {u = tt};
      envelopes = c.in_ok-push_envelope.ensures {u = tt};
      closes = c.in_ok-push_closed.ensures {u = tt} ∙ ap (λ (x : List ℕ). string_bytes c.push_envelope.new.line ++ words_text (closed_words x)) c.as_slice.ensures;
      ends = refl;
    } in
    name_pushed c.push.result old last (string_bytes c.push.new.self) (10 ∷ []) (object_line c.args.above o)
    (c.push.ensures.bytes ∙ ap (λ (x : List ℕ). cond (is_ok c.push.result) (last ++ x) last) (c.push.ensures.ascii (lit< tt)))
    (line_written old indentation o.name (type_name o.kind) (access_text (set_of o.rights)) (width_words o.kind o.width) (option_to_list o.definition) (envelope_words o.envelope) (closed_words o.closed) (last ++ 10 ∷ []) words)
