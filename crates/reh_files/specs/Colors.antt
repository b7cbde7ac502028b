-- Where colours are shown.
use Rattle.std.specs.Prelude.{◌≡◌, ⊤, Bool, false, true}
use Rattle.reh_colors.specs.declared.choices.Color.{Color}
use Rattle.reh_colors.specs.declared.choices.Color.TheVariants.{Always, Auto, Never}
use Rattle.reh_words.specs.declared.tasks.Prints.{Prints}
use Rattle.reh_words.specs.declared.tasks.Prints.TheVariants.{Answers, Changes, Json}

-- whether what is printed of each line has colours, where answers have: JSON has none
abbrev pub has_colors : Bool → Prints → Bool
has_colors shown Answers = shown
has_colors shown Changes = shown
has_colors shown Json = false

-- whether colours may be shown, or not: where it is asked for they always are, or never; the environment decides the rest
abbrev pub MayShow : Color → Bool → Type 0
MayShow Always shown = shown ≡ true
MayShow Never shown = shown ≡ false
MayShow Auto shown = ⊤
