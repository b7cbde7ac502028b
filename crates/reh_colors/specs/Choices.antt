-- Whether colours are shown.
use Rattle.std.specs.Prelude.{Bool, true, false, ◌&&◌, not}
use Rattle.reh_colors.specs.declared.choices.Color.{Color}
use Rattle.reh_colors.specs.declared.choices.Color.TheVariants.{Auto, Always, Never}

-- on a terminal, unless they are unwanted; or always, or never
abbrev pub is_shown : Color → Bool → Bool → Bool
is_shown Auto is_terminal is_unwanted = is_terminal && not is_unwanted
is_shown Always is_terminal is_unwanted = true
is_shown Never is_terminal is_unwanted = false
