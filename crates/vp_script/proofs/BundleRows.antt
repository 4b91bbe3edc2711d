-- Texts cut at their first line `%%`, and a bundle cut into its parts, computed. Each row is an equation that holds by computation.
use Rattle.std.proofs.Common.{◌≡◌, [], Some, None, refl}
use Rattle.std.specs.Prelude.{codes}
use Rattle.vp_script.specs.Bundles.{cut_of}
use Rattle.vp_script.specs.Scripts.{IsCutInto}

in_the_middle : cut_of (codes "a\n%%\nb\n%%\n") ≡ Some (codes "a\n", codes "b\n%%\n")
in_the_middle = refl

at_the_front : cut_of (codes "%%\nb") ≡ Some ([], codes "b")
at_the_front = refl

-- a last line may lack its newline
at_the_end : cut_of (codes "a\n%%") ≡ Some (codes "a\n", [])
at_the_end = refl

-- a line that has more than the mark is none
with_more : cut_of (codes "a%%\n%% \n") ≡ None
with_more = refl

nothing : cut_of [] ≡ None
nothing = refl

-- a third mark is of the script
parts : IsCutInto (codes "d\n%%\np\n%%\ns\n%%\n") (record { text = codes "d\n"; policy = codes "p\n"; input = codes "s\n%%\n" })
parts = record { rest = codes "p\n%%\ns\n%%\n"; first_cut = refl; second_cut = refl }
