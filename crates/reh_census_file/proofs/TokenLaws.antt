-- What is read of a line's words is what they say.
use Rattle.std.proofs.Common.{◌≡◌, ℕ, zero, suc, ◌^◌, ◌<◌, ◌≤◌, Bool, true, false, cond, List, [], ◌∷◌, ◌++◌, length, Option, Some, None, Result, Ok, Err, position, get_or, refl, sym, ap, subst, ◌∙◌, arith}
use Rattle.std.specs.Fmt.{decimal}
use Rattle.std.specs.List.{AllByRecursion}
use Rattle.std.specs.Str.{bytes_eq}
use Rattle.std.proofs.lemmas.List.Quantifiers.{position-Some}
use Rattle.std.proofs.lemmas.Option.{unwrap_or-slice_get}
use Rattle.std.proofs.lemmas.Slice.Eq.{bytes_eq-Decides}
use Rattle.reh_census_file.specs.declared.faults.Expected.{Expected}
use Rattle.reh_census_file.specs.declared.faults.Expected.TheVariants as expected
use Rattle.reh_census_file.specs.declared.faults.Keyword.{Keyword}
use Rattle.reh_census_file.specs.Faults.{word_text}
use Rattle.reh_census_file.specs.Canonical.{is_name}
use Rattle.reh_census_file.specs.Reading.{◌>>=◌, number_of, number_or, count_or, bookie_or, word_at, flag_at, choice_at, number_at, count_at, number_behind, name_at, bookie_at, bookies_at, bookies_behind, no_more}
use Rattle.reh_census_file.specs.Texts.{name_of, names_of, word_if}
use Rattle.reh_census_file.proofs.NumberLaws.{number_of-some}

-- the value of a step that did not fail
pub bind_ok : {A B E : Type 0} (r : Result A E) (f : A → Result B E) (y : B) → (r >>= f) ≡ Ok y → (x : A) × (r ≡ Ok x) × (f x ≡ Ok y)
bind_ok (Ok x) f y e = (x, refl, e)
bind_ok (Err d) f y e = absurd cc

-- a step that did not fail has a value, and the next step goes on from it
pub step_ok : {A B E : Type 0} {P : Type 0} (r : Result A E) (f : A → Result B E) (y : B) → (r >>= f) ≡ Ok y → ((x : A) → r ≡ Ok x → f x ≡ Ok y → P) → P
step_ok (Ok x) f y e next = next x refl e
step_ok (Err d) f y e next = absurd cc

-- a test that did not fail
pub passed : {A E : Type 0} (b : Bool) (d : E) (x : Result A E) (y : A) → cond b x (Err d) ≡ Ok y → (b ≡ true) × (x ≡ Ok y)
passed true d x y e = (refl, e)
passed false d x y e = absurd cc

abbrev pub ok : {A : Type 0} → A → Result A Expected
ok x = Ok x

pub ok_is : {A : Type 0} (x y : A) → ok x ≡ ok y → x ≡ y
ok_is x y e = cc

word_is : (word other : List ℕ) → bytes_eq word other ≡ true → word ≡ other
word_is word other same = (bytes_eq-Decides word other).0 same

pub word_takes : (wanted : Keyword) (words rest : List (List ℕ)) → word_at wanted words ≡ Ok rest → words ≡ word_text wanted ∷ rest
unfolding word_at
word_takes wanted [] rest e = absurd cc
word_takes wanted (word ∷ words) rest e =
    let p = passed (bytes_eq word (word_text wanted)) (expected.Keyword wanted) (Ok words) rest e in
    λ i. word_is word (word_text wanted) p.0 i ∷ ok_is words rest p.1 i

pub flag_takes : (wanted : Keyword) (words : List (List ℕ)) → words ≡ word_if (flag_at wanted words).0 (word_text wanted) ++ (flag_at wanted words).1
unfolding flag_at
flag_takes wanted [] = refl
flag_takes wanted (word ∷ words) =
    elim (bytes_eq word (word_text wanted)) as (λ t. bytes_eq word (word_text wanted) ≡ t → word ∷ words ≡ word_if (cond {A = Bool × List (List ℕ)} t (true, words) (false, word ∷ words)).0 (word_text wanted) ++ (cond {A = Bool × List (List ℕ)} t (true, words) (false, word ∷ words)).1) [
      | true ↦ λ e. ap (λ w. w ∷ words) (word_is word (word_text wanted) e)
      | false ↦ λ e. refl
    ] refl

pub choice_takes : (one other : List ℕ) (what : Expected) (words rest : List (List ℕ)) (first : Bool) → choice_at one other what words ≡ Ok (first, rest) → words ≡ cond first one other ∷ rest
unfolding choice_at
choice_takes one other what [] rest first e = absurd cc
choice_takes one other what (word ∷ words) rest first e =
    go (bytes_eq word one) (bytes_eq word other) refl refl e
  where
    go : (a b : Bool) → bytes_eq word one ≡ a → bytes_eq word other ≡ b → cond {A = Result (Bool × List (List ℕ)) Expected} a (Ok (true, words)) (cond b (Ok (false, words)) (Err what)) ≡ Ok (first, rest) → word ∷ words ≡ cond first one other ∷ rest
    go true b is other_is e =
        let p = ok_is (true, words) (first, rest) e in
        ap (λ w. w ∷ words) (word_is word one is) ∙ ap (λ (x : Bool × List (List ℕ)). cond x.0 one other ∷ x.1) p
    go false true one_is is e =
        let p = ok_is (false, words) (first, rest) e in
        ap (λ w. w ∷ words) (word_is word other is) ∙ ap (λ (x : Bool × List (List ℕ)). cond x.0 one other ∷ x.1) p
    go false false one_is other_is e = absurd cc

-- what a number's word is
pub record IsNumberWord (n : ℕ) (words rest : List (List ℕ)) : Type 0 where
  pub parts : words ≡ decimal n ∷ rest
  pub small : n ≤ 2 ^ 63

pub number_takes : (words rest : List (List ℕ)) (n : ℕ) → number_at words ≡ Ok (n, rest) → IsNumberWord n words rest
unfolding number_at
number_takes [] rest n e = absurd cc
number_takes (word ∷ words) rest n e = go (number_of word) refl e
  where
    go : (o : Option ℕ) → number_of word ≡ o → number_or o words ≡ Ok (n, rest) → IsNumberWord n (word ∷ words) rest
    go None is e = absurd cc
    go (Some m) is e =
        let h = number_of-some word m is in
        let p = ok_is (m, words) (n, rest) e in
        subst (λ (x : ℕ × List (List ℕ)). IsNumberWord x.0 (word ∷ words) x.1) p (record { parts = ap (λ w. w ∷ words) h.0; small = h.1 })

pub count_takes : (words rest : List (List ℕ)) (n : ℕ) → count_at words ≡ Ok (n, rest) → IsNumberWord n words rest × (1 ≤ n)
unfolding count_at
count_takes [] rest n e = absurd cc
count_takes (word ∷ words) rest n e = go (number_of word) refl e
  where
    go : (o : Option ℕ) → number_of word ≡ o → count_or o words ≡ Ok (n, rest) → IsNumberWord n (word ∷ words) rest × (1 ≤ n)
    go None is e = absurd cc
    go (Some zero) is e = absurd cc
    go (Some (suc m)) is e =
        let h = number_of-some word (suc m) is in
        let p = ok_is (suc m, words) (n, rest) e in
        subst (λ (x : ℕ × List (List ℕ)). IsNumberWord x.0 (word ∷ words) x.1 × (1 ≤ x.0)) p (record { parts = ap (λ w. w ∷ words) h.0; small = h.1 }, omega arith)

pub record IsNumberBehind (wanted : Keyword) (n : ℕ) (words rest : List (List ℕ)) : Type 0 where
  pub parts : words ≡ word_text wanted ∷ decimal n ∷ rest
  pub small : n ≤ 2 ^ 63

pub number_behind_takes : (wanted : Keyword) (words rest : List (List ℕ)) (n : ℕ) → number_behind wanted words ≡ Ok (n, rest) → IsNumberBehind wanted n words rest
unfolding number_behind
number_behind_takes wanted words rest n e =
    let a = bind_ok (word_at wanted words) number_at (n, rest) e in
    let b = number_takes a.0 rest n a.2 in
    record { parts = word_takes wanted words a.0 a.1 ∙ ap (λ ws. word_text wanted ∷ ws) b.parts; small = b.small }

pub name_takes : (words rest : List (List ℕ)) (name : List ℕ) → name_at words ≡ Ok (name, rest) → (words ≡ name ∷ rest) × (is_name name ≡ true)
unfolding name_at
name_takes [] rest name e = absurd cc
name_takes (word ∷ words) rest name e =
    let p = passed (is_name word) expected.Name (Ok (word, words)) (name, rest) e in
    let q = ok_is (word, words) (name, rest) p.1 in
    subst (λ (x : List ℕ × List (List ℕ)). (word ∷ words ≡ x.0 ∷ x.1) × (is_name x.0 ≡ true)) q (refl, p.0)

-- the place of a name
pub record IsPlace (names : List (List ℕ)) (word : List ℕ) (b : ℕ) : Type 0 where
  pub named : word ≡ name_of names b
  pub within : b < length names

pub place_of : (names : List (List ℕ)) (word : List ℕ) (b : ℕ) → position (bytes_eq word) names ≡ Some b → IsPlace names word b
place_of names word b is =
    let h = position-Some (bytes_eq word) names b [] is in
    record { named = word_is word (get_or names b []) h.1 ∙ sym (unwrap_or-slice_get names b []); within = h.0 }

pub bookie_takes : (names words rest : List (List ℕ)) (b : ℕ) → bookie_at names words ≡ Ok (b, rest) → (words ≡ name_of names b ∷ rest) × (b < length names)
unfolding bookie_at
bookie_takes names [] rest b e = absurd cc
bookie_takes names (word ∷ words) rest b e = go (position (bytes_eq word) names) refl e
  where
    go : (o : Option ℕ) → position (bytes_eq word) names ≡ o → bookie_or o words ≡ Ok (b, rest) → (word ∷ words ≡ name_of names b ∷ rest) × (b < length names)
    go None is e = absurd cc
    go (Some n) is e =
        let h = place_of names word n is in
        let p = ok_is (n, words) (b, rest) e in
        subst (λ (x : ℕ × List (List ℕ)). (word ∷ words ≡ name_of names x.0 ∷ x.1) × (x.0 < length names)) p (ap (λ w. w ∷ words) h.named, h.within)

-- what the words of bookies are
pub record AreBookieWords (names : List (List ℕ)) (bookies : List ℕ) (words rest : List (List ℕ)) : Type 0 where
  pub parts : words ≡ names_of names bookies ++ rest
  pub within : AllByRecursion (λ b. b < length names) bookies

pub bookies_take : (names : List (List ℕ)) (n : ℕ) (words rest : List (List ℕ)) (bookies : List ℕ) → bookies_at names n words ≡ Ok (bookies, rest) → AreBookieWords names bookies words rest × (length bookies ≡ n)
unfolding bookies_at
bookies_take names zero words rest bookies e =
    subst (λ (x : List ℕ × List (List ℕ)). AreBookieWords names x.0 words x.1 × (length x.0 ≡ zero)) (ok_is ([], words) (bookies, rest) e) (record { parts = refl; within = tt }, refl)
bookies_take names (suc n) words rest bookies e =
    let a = bind_ok (bookie_at names words) (λ first. bookies_at names n first.1 >>= λ others. Ok (first.0 ∷ others.0, others.1)) (bookies, rest) e in
    let b = bind_ok (bookies_at names n a.0.1) (λ others. Ok (a.0.0 ∷ others.0, others.1)) (bookies, rest) a.2 in
    let first = bookie_takes names words a.0.1 a.0.0 a.1 in
    let others = bookies_take names n a.0.1 b.0.1 b.0.0 b.1 in
    let made : List ℕ × List (List ℕ) = (a.0.0 ∷ b.0.0, b.0.1) in
    subst (λ (x : List ℕ × List (List ℕ)). AreBookieWords names x.0 words x.1 × (length x.0 ≡ suc n)) (ok_is made (bookies, rest) b.2)
    (record { parts = first.0 ∙ ap (λ ws. name_of names a.0.0 ∷ ws) others.0.parts; within = (first.1, others.0.within) }, ap suc others.1)

pub record AreBookiesBehind (names : List (List ℕ)) (wanted : Keyword) (bookies : List ℕ) (words rest : List (List ℕ)) : Type 0 where
  pub parts : words ≡ word_text wanted ∷ decimal (length bookies) ∷ (names_of names bookies ++ rest)
  pub within : AllByRecursion (λ b. b < length names) bookies
  pub few : length bookies ≤ 2 ^ 63

pub bookies_behind_take : (names : List (List ℕ)) (wanted : Keyword) (words rest : List (List ℕ)) (bookies : List ℕ) → bookies_behind names wanted words ≡ Ok (bookies, rest) → AreBookiesBehind names wanted bookies words rest
unfolding bookies_behind
bookies_behind_take names wanted words rest bookies e =
    let a = bind_ok (number_behind wanted words) (λ count. bookies_at names count.0 count.1) (bookies, rest) e in
    let n = number_behind_takes wanted words a.0.1 a.0.0 a.1 in
    let b = bookies_take names a.0.0 a.0.1 rest bookies a.2 in
    record {
      parts = n.parts ∙ ap (λ ws. word_text wanted ∷ decimal a.0.0 ∷ ws) b.0.parts ∙ ap (λ k. word_text wanted ∷ decimal k ∷ (names_of names bookies ++ rest)) (sym b.1);
      within = b.0.within;
      few = omega (arith, b.1, n.small);
    }

abbrev done : Result (Unit {0}) Expected
done = Ok tt

pub no_more_takes : (words : List (List ℕ)) → no_more words ≡ done → words ≡ []
no_more_takes [] e = refl
no_more_takes (word ∷ words) e = absurd cc
