use Rattle.std.proofs.Common.{◌≡◌, ◌++◌, drop}
use Rattle.std.specs.Prelude.{option_map}
use Rattle.serde_json.specs.View.{items_view}
use Rattle.vp_policy.specs.File.{each_of}
use Rattle.vp_wire.specs.Lines.{word_in}
use Rattle.vp_wire.proofs.requests.words_of.Given as goal

-- the words so far, and those of the other items
abbrev pub invariant-loop-item : goal.invariant-loop-item
invariant-loop-item l =
    option_map (λ ws. l.words.items ++ ws) (each_of word_in (items_view (drop l.item-index l.items)))
    ≡ each_of word_in (items_view l.items)
