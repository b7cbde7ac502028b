-- What is printed of a command is read back as the same command.
use Rattle.std.proofs.Common.{◌≡◌, ℕ, ◌-◌, ◌^◌, ◌<◌, Bool, true, false, cond, not, List, [], ◌∷◌, ◌++◌, length, get_or, refl, sym, ap, ◌∙◌, arith, rules, lit<, subst, append-nil, lt-ltb, le-ltb, le-leb, leb-true, ltb-true, ne_eqb}
use Rattle.std.specs.Prelude.{◌&&◌, ◌||◌, ◌==◌, nat_eq, nat_lt, nat_le, codes, filter, take, is_some, slice_get, unwrap_or, Option, Some, None, Result, Ok, Err, IfOk, IfSome, All, option_map, if◌then◌else◌}
use Rattle.std.specs.Char.{is_ascii_digit}
use Rattle.std.specs.Fmt.{decimal}
use Rattle.std.specs.List.{IsDistinct, list_all, list_any, position_or_len, slice_split, starts_with}
use Rattle.std.specs.Option.{option_and_then, option_map_or}
use Rattle.std.specs.Str.{all_ascii_digits, bytes_eq}
use Rattle.std.specs.Str.Lines.{strip_carriage_return}
use Rattle.std.proofs.lemmas.Bool.{and_from, and_parts, false≢true, not_from_false}
use Rattle.std.proofs.lemmas.Bool.Decides.{nat_tests}
use Rattle.std.proofs.lemmas.Fmt.{decimal_nonempty, digits_decimal, digits_value-decimal, length-decimal-le}
use Rattle.std.proofs.lemmas.List.Elements.{All-weaker}
use Rattle.std.proofs.lemmas.List.Folds.{list_all-append}
use Rattle.std.proofs.lemmas.List.Splits.{slice_split_at, slice_split_none}
use Rattle.std.proofs.lemmas.List.Sums.{AllPass-from_list_all, position_or_len_is}
use Rattle.std.proofs.lemmas.Map.Keys.{apart_from_distinct}
use Rattle.std.proofs.lemmas.Option.{get_or_from_slice_get, none-some, same_Some, slice_get_within}
use Rattle.std.proofs.lemmas.Slice.Eq.{bytes_eq-Decides}
use Rattle.std.proofs.lemmas.Str.Parse.{IsNumeralModel, numerals_by_fold, tells_all_ascii_digits}
use Rattle.reh_types.specs.declared.limits.TheConstants.{MAX_LINE_BYTES}
use Rattle.reh_types.specs.declared.moves.Event.TheVariants.{Lose, Join, Audit, Acquire, Release, Finish, Expire}
use Rattle.reh_types.specs.declared.moves.Event.TheVariants.{Grace, Tick, Roll, Fence, Seal, Copy, Swap, Disable, Enable}
use Rattle.reh_types.specs.declared.moves.Move.TheVariants.{Do, Post, Undo, Redo, Look}
use Rattle.reh_model.specs.Cluster.{bookie_named}
use Rattle.reh_commands.specs.declared.commands.Command.{Command}
use Rattle.reh_commands.specs.declared.commands.Command.TheVariants.{Make, Checkout, Spend, Discard, Report, Survey}
use Rattle.reh_commands.specs.declared.commands.LineFault.{LineFault}
use Rattle.reh_commands.specs.declared.commands.LineFault.TheVariants.{TooLong, BadWords, UnknownName}
use Rattle.reh_commands.specs.declared.verbs.Verb.{Verb}
use Rattle.reh_commands.specs.declared.verbs.Verb.TheVariants as verb
use Rattle.reh_commands.specs.declared.words.Kind.{Kind}
use Rattle.reh_commands.specs.declared.words.Kind.TheVariants.{Name, Number}
use Rattle.reh_commands.specs.declared.words.Arguments.{Arguments}
use Rattle.reh_commands.specs.Script.{is_blank, words_of, read_on, number_of, no_arguments, with_bookie, with_number, are_formed, are_known, named_by, arguments_of, form_of, verbs, verb_of, made_by, command_by, command_of_words, command_of_line}
use Rattle.reh_commands.specs.Texts.{behind_spaces, name_of, spaced}
use Rattle.reh_commands.specs.Printed.{is_letter, is_word, without_number, can_name, words_for, kinds_of, line_text, line_for, command_parts, command_text}

-- The words of a line

-- a part of a line that has a byte
abbrev is_part : List ℕ → Bool
is_part part = not (length part == 0)

-- what holds of all letters holds of all bytes of a word
implied : (p q : ℕ → Bool) → ((b : ℕ) → p b ≡ true → q b ≡ true) → (bs : List ℕ) → list_all p bs ≡ true → list_all q bs ≡ true
implied p q all [] e = refl
implied p q all (b ∷ bs) e =
    let h = and_parts (p b) (list_all p bs) e in
    and_from (q b) (list_all q bs) (all b h.0) (implied p q all bs h.1)

letters : (word : List ℕ) → is_word word ≡ true → list_all is_letter word ≡ true
letters word e = (and_parts (is_part word) (list_all is_letter word) e).1

no_blank : (b : ℕ) → is_letter b ≡ true → is_blank b ≡ false
no_blank b e = grind (arith, nat_tests)

unparted : (word : List ℕ) → is_word word ≡ true → All (λ b. is_blank b ≡ false) word
unparted word e =
    All-weaker (λ b. is_letter b ≡ true) (λ b. is_blank b ≡ false) no_blank word
    (AllPass-from_list_all is_letter word (letters word e))

parts_of-spaced : (word : List ℕ) (words : List (List ℕ)) → list_all is_word (word ∷ words) ≡ true
    → slice_split is_blank (spaced (word ∷ words)) ≡ word ∷ words
parts_of-spaced word [] e =
    let h = and_parts (is_word word) true e in
    ap (slice_split is_blank) (append-nil word) ∙ slice_split_none is_blank word (unparted word h.0)
parts_of-spaced word (next ∷ words) e =
    let h = and_parts (is_word word) (list_all is_word (next ∷ words)) e in
    slice_split_at is_blank word 32 (spaced (next ∷ words)) (unparted word h.0) refl
    ∙ ap (λ ws. word ∷ ws) (parts_of-spaced next words h.1)

all_kept : (words : List (List ℕ)) → list_all is_word words ≡ true → filter is_part words ≡ words
all_kept [] e = refl
all_kept (word ∷ words) e =
    let h = and_parts (is_word word) (list_all is_word words) e in
    let some = (and_parts (is_part word) (list_all is_letter word) h.0).0 in
    ap (λ t. cond t (word ∷ filter is_part words) (filter is_part words)) some
    ∙ ap (λ ws. word ∷ ws) (all_kept words h.1)

words_of-spaced : (word : List ℕ) (words : List (List ℕ)) → list_all is_word (word ∷ words) ≡ true
    → words_of (spaced (word ∷ words)) ≡ word ∷ words
words_of-spaced word words e = ap (filter is_part) (parts_of-spaced word words e) ∙ all_kept (word ∷ words) e

-- a byte that is no line end
abbrev is_clean : ℕ → Bool
is_clean b = nat_lt 31 b

letter_clean : (b : ℕ) → is_letter b ≡ true → is_clean b ≡ true
letter_clean b e = grind (arith, nat_tests)

clean_word : (word rest : List ℕ) → is_word word ≡ true → list_all is_clean rest ≡ true → list_all is_clean (word ++ rest) ≡ true
clean_word word rest e clean =
    list_all-append is_clean word rest
    ∙ and_from (list_all is_clean word) (list_all is_clean rest) (implied is_letter is_clean letter_clean word (letters word e)) clean

clean_spaces : (words : List (List ℕ)) → list_all is_word words ≡ true → list_all is_clean (behind_spaces words) ≡ true
clean_spaces [] e = refl
clean_spaces (word ∷ words) e =
    let h = and_parts (is_word word) (list_all is_word words) e in
    clean_word word (behind_spaces words) h.0 (clean_spaces words h.1)

clean_line : (word : List ℕ) (words : List (List ℕ)) → list_all is_word (word ∷ words) ≡ true
    → list_all is_clean (spaced (word ∷ words)) ≡ true
clean_line word words e =
    let h = and_parts (is_word word) (list_all is_word words) e in
    clean_word word (behind_spaces words) h.0 (clean_spaces words h.1)

other_than : (b : ℕ) → is_clean b ≡ true → ((b == 10) ≡ false) × ((b == 13) ≡ false)
other_than b e = (ne_eqb b 10 (λ is. omega (arith, ltb-true 31 b e)), ne_eqb b 13 (λ is. omega (arith, ltb-true 31 b e)))

no_lf : (line : List ℕ) → list_all is_clean line ≡ true → list_any (λ b. b == 10) line ≡ false
no_lf [] clean = refl
no_lf (b ∷ bs) clean =
    let h = and_parts (is_clean b) (list_all is_clean bs) clean in
    ap (λ t. t || list_any (λ c. c == 10) bs) (other_than b h.0).0 ∙ no_lf bs h.1

no_cr : (line : List ℕ) → list_all is_clean line ≡ true → strip_carriage_return line ≡ line
no_cr [] clean = refl
no_cr (b ∷ bs) clean =
    let line : List ℕ = b ∷ bs in
    let end : length line - 1 < length line = omega arith in
    let last : is_clean (get_or line (length line - 1) 0) ≡ true =
    AllPass-from_list_all is_clean line clean (length line - 1) 0 end in
    ap (λ t. if t then take (length line - 1) line else line) (other_than (get_or line (length line - 1) 0) last).1

-- Numbers

own : IsNumeralModel (λ ds. all_ascii_digits ds ≡ true) (read_on 0)
own = numerals_by_fold _ tells_all_ascii_digits read_on (search rules)

abbrev as_number : List ℕ → Bool → Option ℕ
as_number word t = if t then Some (read_on 0 word) else None

number_of-decimal : (n : ℕ) → n < 10 ^ 13 → number_of (decimal n) ≡ Some n
number_of-decimal n small =
    let word : List ℕ = decimal n in
    let digits : all_ascii_digits word ≡ true = digits_decimal own n (omega arith) in
    let value : read_on 0 word ≡ n = digits_value-decimal own n (omega arith) in
    let some : nat_lt 0 (length word) ≡ true = lt-ltb 0 (length word) (decimal_nonempty n (omega arith)) in
    let few : nat_le (length word) 13 ≡ true = le-leb (length word) 13 (length-decimal-le 13 n (lit< tt) small (omega arith)) in
    ap (as_number word)
    (and_from (nat_lt 0 (length word) && nat_le (length word) 13) (all_ascii_digits word)
    (and_from (nat_lt 0 (length word)) (nat_le (length word) 13) some few) digits)
    ∙ ap Some value

digit_letter : (b : ℕ) → is_ascii_digit b ≡ true → is_letter b ≡ true
digit_letter b e = grind (arith, nat_tests)

digits_letters : (ds : List ℕ) → all_ascii_digits ds ≡ true → list_all is_letter ds ≡ true
digits_letters [] e = refl
digits_letters (d ∷ ds) e =
    let h = and_parts (is_ascii_digit d) (all_ascii_digits ds) e in
    and_from (is_letter d) (list_all is_letter ds) (digit_letter d h.0) (digits_letters ds h.1)

decimal-word : (n : ℕ) → n < 10 ^ 13 → is_word (decimal n) ≡ true
decimal-word n small =
    let some : 0 < length (decimal n) = decimal_nonempty n (omega arith) in
    and_from (is_part (decimal n)) (list_all is_letter (decimal n))
    (not_from_false (length (decimal n) == 0) (ne_eqb (length (decimal n)) 0 (λ is. omega arith)))
    (digits_letters (decimal n) (digits_decimal own n (omega arith)))

-- Names

names_sym : (x y : List ℕ) → bytes_eq x y ≡ false → bytes_eq y x ≡ false
names_sym x y differ = go (bytes_eq y x) refl
  where
    go : (b : Bool) → bytes_eq y x ≡ b → bytes_eq y x ≡ false
    go false e = e
    go true e = absurd (false≢true (sym differ ∙ (bytes_eq-Decides x y).1 (sym ((bytes_eq-Decides y x).0 e))))

abbrev at_place : List (List ℕ) → ℕ → Bool → Option ℕ
at_place names place t = if t then Some place else None

-- a bookie is found by its name
name-found : (names : List (List ℕ)) (b : ℕ) (name : List ℕ) → IsDistinct bytes_eq names → slice_get names b ≡ Some name → bookie_named names name ≡ Some b
name-found names b name apart is =
    let within : b < length names = slice_get_within names b name is in
    let at : get_or names b name ≡ name = get_or_from_slice_get names b name name is in
    let before : (k : ℕ) → k < b → bytes_eq name (get_or names k name) ≡ false =
    λ k below. names_sym (get_or names k name) name
    (ap (bytes_eq (get_or names k name)) (sym at) ∙ apart_from_distinct bytes_eq names k b name apart below within) in
    let first : position_or_len (bytes_eq name) names ≡ b =
    position_or_len_is (bytes_eq name) names b name (omega arith) before
    (λ _. (bytes_eq-Decides name (get_or names b name)).1 (sym at)) in
    ap (λ n. at_place names n (nat_lt n (length names))) first
    ∙ ap (at_place names b) (lt-ltb b (length names) within)

-- The words after a verb

module _ (names : List (List ℕ)) (apart : IsDistinct bytes_eq names) where
  named : (b : ℕ) → option_map_or is_word (slice_get names b) false ≡ true
      → (is_word (name_of names b) ≡ true) × (bookie_named names (name_of names b) ≡ Some b)
  named b can = go (slice_get names b) refl can
    where
      go : (o : Option (List ℕ)) → slice_get names b ≡ o → option_map_or is_word o false ≡ true
          → (is_word (name_of names b) ≡ true) × (bookie_named names (name_of names b) ≡ Some b)
      go None e can = absurd (false≢true can)
      go (Some name) e can =
          let is : name_of names b ≡ name = ap (λ (o : Option (List ℕ)). unwrap_or o (decimal b)) e in
          (ap is_word is ∙ can, ap (bookie_named names) is ∙ name-found names b name apart e)

  name_parts : (kinds : List Kind) (a : Arguments) → can_name names (Name ∷ kinds) a ≡ true
      → (option_map_or is_word (slice_get names a.bookie) false ≡ true) × (can_name names kinds a ≡ true)
  name_parts kinds a can = and_parts (option_map_or is_word (slice_get names a.bookie) false) (can_name names kinds a) can

  number_parts : (kinds : List Kind) (a : Arguments) → can_name names (Number ∷ kinds) a ≡ true
      → (a.first < 10 ^ 13) × (can_name names kinds (without_number a) ≡ true)
  number_parts kinds a can =
      let h = and_parts (nat_lt a.first (10 ^ 13)) (can_name names kinds (without_number a)) can in
      (ltb-true a.first (10 ^ 13) h.0, h.1)

  are_words : (kinds : List Kind) (a : Arguments) → can_name names kinds a ≡ true → list_all is_word (words_for names kinds a) ≡ true
  are_words [] a can = refl
  are_words (Name ∷ kinds) a can =
      let h = name_parts kinds a can in
      and_from (is_word (name_of names a.bookie)) (list_all is_word (words_for names kinds a)) (named a.bookie h.0).0 (are_words kinds a h.1)
  are_words (Number ∷ kinds) a can =
      let h = number_parts kinds a can in
      and_from (is_word (decimal a.first)) (list_all is_word (words_for names kinds (without_number a))) (decimal-word a.first h.0) (are_words kinds (without_number a) h.1)

  formed : (kinds : List Kind) (a : Arguments) → can_name names kinds a ≡ true → are_formed kinds (words_for names kinds a) ≡ true
  formed [] a can = refl
  formed (Name ∷ kinds) a can = formed kinds a (name_parts kinds a can).1
  formed (Number ∷ kinds) a can =
      let h = number_parts kinds a can in
      and_from (is_some (number_of (decimal a.first))) (are_formed kinds (words_for names kinds (without_number a)))
      (ap is_some (number_of-decimal a.first h.0)) (formed kinds (without_number a) h.1)

  known : (kinds : List Kind) (a : Arguments) → can_name names kinds a ≡ true → are_known names kinds (words_for names kinds a) ≡ true
  known [] a can = refl
  known (Name ∷ kinds) a can =
      let h = name_parts kinds a can in
      and_from (is_some (bookie_named names (name_of names a.bookie))) (are_known names kinds (words_for names kinds a))
      (ap is_some (named a.bookie h.0).1) (known kinds a h.1)
  known (Number ∷ kinds) a can = known kinds (without_number a) (number_parts kinds a can).1

-- what is read, from whether the words have the form and name bookies
abbrev judged : Bool → Bool → Arguments → Result Arguments LineFault
judged is_formed is_known a = if not is_formed then Err BadWords else (if not is_known then Err UnknownName else Ok a)

-- what words of these kinds can tell of the arguments
abbrev told : List Kind → Arguments → Arguments
told [] a = no_arguments
told (Name ∷ kinds) a = with_bookie a.bookie (told kinds a)
told (Number ∷ kinds) a = with_number a.first (told kinds (without_number a))

module _ (names : List (List ℕ)) (apart : IsDistinct bytes_eq names) where
  named_by-told : (kinds : List Kind) (a : Arguments) → can_name names kinds a ≡ true → named_by names kinds (words_for names kinds a) ≡ told kinds a
  named_by-told [] a can = refl
  named_by-told (Name ∷ kinds) a can =
      let h = name_parts names apart kinds a can in
      ap (λ (o : Option ℕ). with_bookie (unwrap_or o 0) (named_by names kinds (words_for names kinds a))) (named names apart a.bookie h.0).1
      ∙ ap (with_bookie a.bookie) (named_by-told kinds a h.1)
  named_by-told (Number ∷ kinds) a can =
      let h = number_parts names apart kinds a can in
      ap (λ (o : Option ℕ). with_number (unwrap_or o 0) (named_by names kinds (words_for names kinds (without_number a)))) (number_of-decimal a.first h.0)
      ∙ ap (with_number a.first) (named_by-told kinds (without_number a) h.1)

  arguments_of-words : (kinds : List Kind) (a : Arguments) → can_name names kinds a ≡ true
      → arguments_of names kinds (words_for names kinds a) ≡ Ok (told kinds a)
  arguments_of-words kinds a can =
      let words : List (List ℕ) = words_for names kinds a in
      ap (λ t. judged t (are_known names kinds words) (named_by names kinds words)) (formed names apart kinds a can)
      ∙ ap (λ t. judged true t (named_by names kinds words)) (known names apart kinds a can)
      ∙ ap (judged true true) (named_by-told kinds a can)

-- Verbs

-- each verb is found by its name
pub found : (v : Verb) → verb_of (form_of v).name ≡ Some v
unfolding verbs
found verb.Lose = refl
found verb.Join = refl
found verb.Audit = refl
found verb.Acquire = refl
found verb.Release = refl
found verb.Finish = refl
found verb.Expire = refl
found verb.Grace = refl
found verb.Tick = refl
found verb.Roll = refl
found verb.Fence = refl
found verb.Seal = refl
found verb.Copy = refl
found verb.Swap = refl
found verb.Disable = refl
found verb.Enable = refl
found verb.Undo = refl
found verb.Redo = refl
found verb.Clock = refl
found verb.Checkout = refl
found verb.Spend = refl
found verb.Discard = refl
found verb.Report = refl
found verb.Survey = refl

-- its name is a word and begins no comment, and its words tell all of the arguments that its command needs
abbrev IsTold : Verb → Type 0
IsTold v =
    (is_word (form_of v).name ≡ true)
    × (starts_with nat_eq (form_of v).name (codes "#") ≡ false)
    × ((a : Arguments) → (form_of v).make (told (kinds_of v) a) ≡ (form_of v).make a)

is_told : (v : Verb) → IsTold v
is_told verb.Lose = (refl, refl, λ a. refl)
is_told verb.Join = (refl, refl, λ a. refl)
is_told verb.Audit = (refl, refl, λ a. refl)
is_told verb.Acquire = (refl, refl, λ a. refl)
is_told verb.Release = (refl, refl, λ a. refl)
is_told verb.Finish = (refl, refl, λ a. refl)
is_told verb.Expire = (refl, refl, λ a. refl)
is_told verb.Grace = (refl, refl, λ a. refl)
is_told verb.Tick = (refl, refl, λ a. refl)
is_told verb.Roll = (refl, refl, λ a. refl)
is_told verb.Fence = (refl, refl, λ a. refl)
is_told verb.Seal = (refl, refl, λ a. refl)
is_told verb.Copy = (refl, refl, λ a. refl)
is_told verb.Swap = (refl, refl, λ a. refl)
is_told verb.Disable = (refl, refl, λ a. refl)
is_told verb.Enable = (refl, refl, λ a. refl)
is_told verb.Undo = (refl, refl, λ a. refl)
is_told verb.Redo = (refl, refl, λ a. refl)
is_told verb.Clock = (refl, refl, λ a. refl)
is_told verb.Checkout = (refl, refl, λ a. refl)
is_told verb.Spend = (refl, refl, λ a. refl)
is_told verb.Discard = (refl, refl, λ a. refl)
is_told verb.Report = (refl, refl, λ a. refl)
is_told verb.Survey = (refl, refl, λ a. refl)

-- Lines

abbrev pub Asked : Type 0
Asked = Option (Result Command LineFault)

-- the steps by which a line is read
abbrev by_length : List (List ℕ) → List ℕ → Bool → Asked
by_length names line t = if t then Some (Err TooLong) else command_of_words names (words_of line)

abbrev by_first : List (List ℕ) → Option Verb → List (List ℕ) → Bool → Asked
by_first names v words t = if t then None else Some (command_by names v words)

abbrev by_verb : List (List ℕ) → List (List ℕ) → Option Verb → Asked
by_verb names words v = Some (command_by names v words)

abbrev by_arguments : Verb → Result Arguments LineFault → Asked
by_arguments v arguments = Some (made_by (form_of v) arguments)

abbrev by_command : Command → Asked
by_command command = Some (Ok command)

-- what is read, and that there is no line end
abbrev pub IsLineOf : List (List ℕ) → Command → List ℕ → Type 0
IsLineOf names command line =
    (command_of_line names line ≡ Some (Ok command)) × (list_any (λ b. b == 10) line ≡ false)

pub line_again : (names : List (List ℕ)) (v : Verb) (a : Arguments) → IsDistinct bytes_eq names
    → can_name names (kinds_of v) a ≡ true → nat_le (length (line_text names v a)) MAX_LINE_BYTES ≡ true
    → IsLineOf names ((form_of v).make a) (line_text names v a)
line_again names v a apart can room =
    let words : List (List ℕ) = words_for names (kinds_of v) a in
    let name : List ℕ = (form_of v).name in
    let line : List ℕ = line_text names v a in
    let told_of : IsTold v = is_told v in
    let all : list_all is_word (name ∷ words) ≡ true =
    and_from (is_word name) (list_all is_word words) told_of.0 (are_words names apart (kinds_of v) a can) in
    let clean : list_all is_clean line ≡ true = clean_line name words all in
    let short : nat_lt MAX_LINE_BYTES (length line) ≡ false =
    le-ltb MAX_LINE_BYTES (length line) (leb-true (length line) MAX_LINE_BYTES room) in (
      ap (λ (l : List ℕ). by_length names l (nat_lt MAX_LINE_BYTES (length l))) (no_cr line clean)
          ∙ ap (by_length names line) short
          ∙ ap (command_of_words names) (words_of-spaced name words all)
          ∙ ap (by_first names (verb_of name) words) told_of.1
          ∙ ap (by_verb names words) (found v)
          ∙ ap (by_arguments v) (arguments_of-words names apart (kinds_of v) a can)
          ∙ ap by_command (told_of.2 a),
      no_lf line clean,
    )

-- Commands

-- a command is what its verb makes of what its words name
made_again : (command : Command) → IfSome (command_parts command) (λ parts. (form_of parts.0).make parts.1 ≡ command)
made_again (Make (Do (Lose bookie))) = refl
made_again (Make (Do (Join bookie))) = refl
made_again (Make (Do Audit)) = refl
made_again (Make (Do (Acquire worker ledger))) = refl
made_again (Make (Do (Release worker ledger))) = refl
made_again (Make (Do (Finish worker ledger))) = refl
made_again (Make (Do (Expire worker))) = refl
made_again (Make (Do (Grace worker ledger))) = refl
made_again (Make (Do (Tick ticks))) = refl
made_again (Make (Do (Roll ledger index bookie))) = refl
made_again (Make (Do (Fence worker ledger))) = refl
made_again (Make (Do (Seal worker ledger))) = refl
made_again (Make (Do (Copy worker ledger fragment index version))) = refl
made_again (Make (Do (Swap worker ledger fragment index version))) = refl
made_again (Make (Do Disable)) = refl
made_again (Make (Do Enable)) = refl
made_again (Make (Post content)) = tt
made_again (Make Undo) = refl
made_again (Make Redo) = refl
made_again (Make Look) = refl
made_again (Checkout aim) = refl
made_again Spend = refl
made_again Discard = refl
made_again Report = refl
made_again Survey = refl

-- what is printed is read back
pub read_again : (names : List (List ℕ)) (command : Command) (line : List ℕ) → IsDistinct bytes_eq names
    → command_text names command ≡ Some line → IsLineOf names command line
read_again names command line apart is = by_its_parts (command_parts command) (made_again command) is
  where
    judged_line : (v : Verb) (a : Arguments) (can room : Bool) → can_name names (kinds_of v) a ≡ can
        → nat_le (length (line_text names v a)) MAX_LINE_BYTES ≡ room
        → (if can && room then Some (line_text names v a) else None) ≡ Some line
        → IsLineOf names ((form_of v).make a) line
    judged_line v a true true can room same =
        subst (IsLineOf names ((form_of v).make a)) (same_Some (line_text names v a) line same)
        (line_again names v a apart can room)
    judged_line v a true false can room same = absurd (none-some line same)
    judged_line v a false room can here same = absurd (none-some line same)

    by_its_parts : (o : Option (Verb × Arguments)) → IfSome o (λ parts. (form_of parts.0).make parts.1 ≡ command)
        → option_and_then (λ parts. line_for names parts.0 parts.1) o ≡ Some line → IsLineOf names command line
    by_its_parts None made same = absurd (none-some line same)
    by_its_parts (Some parts) made same =
        subst (λ (c : Command). IsLineOf names c line) made
        (judged_line parts.0 parts.1 (can_name names (kinds_of parts.0) parts.1)
        (nat_le (length (line_text names parts.0 parts.1)) MAX_LINE_BYTES) refl refl same)

-- so each line that a call gives is
pub each_line : {T E : Type 0} (bytes : T → List ℕ) (names : List (List ℕ)) (command : Command) (P : List ℕ → Type 0)
    → ((line : List ℕ) → IsLineOf names command line → P line) → IsDistinct bytes_eq names → (r : Result (Option T) E)
    → IfOk r (λ line. option_map bytes line ≡ command_text names command) → IfOk r (λ line. IfSome line (λ text. P (bytes text)))
each_line bytes names command P all apart (Ok None) is = tt
each_line bytes names command P all apart (Ok (Some text)) is =
    all (bytes text) (read_again names command (bytes text) apart (sym is))
each_line bytes names command P all apart (Err fault) is = tt

-- the line of a command's verb and of what its words name
pub told_text : {T E : Type 0} (bytes : T → List ℕ) (names : List (List ℕ)) (command : Command) (v : Verb) (a : Arguments)
    → Some (v, a) ≡ command_parts command → (r : Result (Option T) E)
    → IfOk r (λ line. option_map bytes line ≡ line_for names v a) → IfOk r (λ line. option_map bytes line ≡ command_text names command)
told_text bytes names command v a of (Ok line) e =
    e ∙ ap (option_and_then (λ (parts : Verb × Arguments). line_for names parts.0 parts.1)) of
told_text bytes names command v a of (Err fault) e = tt
