-- Which names are near a word that is none of them.
use Rattle.std.specs.Prelude.{ℕ, ◌+◌, ◌*◌, ◌==◌, ◌&&◌, ◌||◌, not, max, nat_eq, nat_le, Bool, if◌then◌else◌, List, [], ◌∷◌, ◌++◌, length, map, take, filter, flat_map, codes, slice_index}
use Rattle.std.specs.Fmt.{decimal}
use Rattle.std.specs.List.{range_with_len, starts_with}
use Rattle.reh_near.specs.declared.near.Near.{Near}
use Rattle.reh_near.specs.declared.near.Near.TheVariants.{Longer, Nothing, One, Two, Three}
use Rattle.reh_near.specs.declared.near.TheConstants.{MAX_BYTES}
use Rattle.reh_near.specs.Distance.{distance}

-- whether a name begins with the word, which isn't empty
abbrev pub begins_with : List ℕ → List ℕ → Bool
begins_with word name = not (length word == 0) && starts_with nat_eq name word

-- whether only the port is missing: the name goes on with a colon, which is byte 58
abbrev pub lacks_port : List ℕ → List ℕ → Bool
lacks_port word name = begins_with word name && slice_index name (length word) == 58

-- whether a name is near the word: it begins with it, or is no further than half the length of the longer one; neither has
-- more than 300 bytes
abbrev pub is_near : List ℕ → List ℕ → Bool
is_near word name =
    nat_le (max (length word) (length name)) MAX_BYTES
    && (begins_with word name || nat_le (distance word name * 2) (max (length word) (length name)))

-- how late a near name is told: as far as it is from the word, but those of which only the port is missing come first
abbrev pub rank_of : List ℕ → List ℕ → ℕ
rank_of word name = if lacks_port word name then 0 else distance word name

-- of these names those of one rank, in their order
abbrev pub names_at : List ℕ → List (List ℕ) → ℕ → List (List ℕ)
names_at word names r = filter (λ name. rank_of word name == r) names

-- the near names, nearest first: those of rank 0, then those of rank 1, and so on
abbrev pub near_first : List ℕ → List (List ℕ) → List (List ℕ)
near_first word names =
    flat_map (names_at word (filter (is_near word) names)) (range_with_len 0 (MAX_BYTES + 1))

-- what is near: the one full name, or the nearest ones
pub data Told : Type 0 where
  told_full : List ℕ → Told
  told_nearest : List (List ℕ) → Told

-- where one name is longer it is told, else the nearest
abbrev pub near_by : List (List ℕ) → List (List ℕ) → Told
near_by (name ∷ []) nearest = told_full name
near_by longer nearest = told_nearest nearest

-- the one name that begins with the word, where exactly one does; else the three nearest
abbrev pub near_to : List (List ℕ) → List ℕ → Told
near_to names word = near_by (filter (begins_with word) names) (take 3 (near_first word names))

-- what a result tells
abbrev pub told : Near → Told
told (Longer name) = told_full name.now
told Nothing = told_nearest []
told (One one) = told_nearest (one.now ∷ [])
told (Two one two) = told_nearest (one.now ∷ two.now ∷ [])
told (Three one two three) = told_nearest (one.now ∷ two.now ∷ three.now ∷ [])

-- Texts

-- what follows a fault that names the word: nothing, where no name is near
abbrev pub nearest_text : List (List ℕ) → List ℕ
nearest_text [] = []
nearest_text (a ∷ []) = codes ": near it is '" ++ (a ++ codes "'")
nearest_text (a ∷ b ∷ []) = codes ": near it are '" ++ (a ++ (codes "' and '" ++ (b ++ codes "'")))
nearest_text (a ∷ b ∷ c ∷ more) =
    codes ": near it are '" ++ (a ++ (codes "', '" ++ (b ++ (codes "' and '" ++ (c ++ codes "'")))))

abbrev pub near_text : Told → List ℕ
near_text (told_full name) = codes ": its full name is '" ++ (name ++ codes "'")
near_text (told_nearest names) = nearest_text names

-- what follows an id that is none of these, as of names by their digits; an id that only begins with its digits is another
-- one, and not the full name of it
abbrev pub id_text : Told → List ℕ
id_text (told_full id) = nearest_text (id ∷ [])
id_text (told_nearest ids) = nearest_text ids

abbrev pub near_ids_text : List ℕ → ℕ → List ℕ
near_ids_text ids id = id_text (near_to (map decimal ids) (decimal id))

-- the same ids, in digits
abbrev pub told_ids : Told → List (List ℕ)
told_ids (told_full id) = id ∷ []
told_ids (told_nearest ids) = ids

abbrev pub nearest_ids : List ℕ → ℕ → List (List ℕ)
nearest_ids ids id = told_ids (near_to (map decimal ids) (decimal id))
