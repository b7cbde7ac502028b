-- What is known of a text that may be shown in colour.
use Rattle.std.specs.Prelude.{ℕ, Bool, true, false, List, Option, None}
use Rattle.reh_lines.specs.Streams.{Grows, grows_not}

-- nothing, where it is
abbrev pub unless_shown : Bool → Option (List ℕ) → Option (List ℕ)
unless_shown true text = None
unless_shown false text = text

-- what the other end can see is among it
pub within_unless : (shown : Bool) (seen contents : Option (List ℕ)) → Grows seen contents
    → Grows (unless_shown shown seen) (unless_shown shown contents)
within_unless true seen contents grows = grows_not None
within_unless false seen contents grows = grows
