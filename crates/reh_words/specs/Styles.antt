-- How what is said is shown, by the arguments that are given.
use Rattle.std.specs.Prelude.{◌≡◌, ℕ, if◌then◌else◌, List, Option, None, Some, codes}
use Rattle.std.specs.Str.{bytes_eq}
use Rattle.clap.specs.declared.parser.matches.ArgMatches.{ArgMatches}
use Rattle.reh_colors.specs.declared.choices.Color.{Color}
use Rattle.reh_colors.specs.declared.choices.Color.TheVariants.{Auto, Always, Never}
use Rattle.reh_words.specs.Asked.{IsFlag, word_of}
use Rattle.reh_words.specs.declared.styles.Style.{Style}

-- where colours are shown, by the word for it
abbrev pub color_of : Option (List ℕ) → Color
color_of None = Auto
color_of (Some word) =
    if bytes_eq word (codes "always") then Always else (if bytes_eq word (codes "never") then Never else Auto)

pub record IsStyle (given : ArgMatches) (style : Style) : Type 0 where
  pub is_quiet : IsFlag given (codes "quiet") style.quiet
  pub colors : style.color ≡ color_of (word_of given (codes "color"))
