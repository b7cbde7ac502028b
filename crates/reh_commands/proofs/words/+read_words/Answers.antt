-- What a name and the words after it name.
use Rattle.std.proofs.Common.{◌≡◌, ◌∙◌, ℕ, ◌≤◌, Bool, true, false, cond, not, List, [], ◌∷◌, length, get_or, map, drop, ap, sym, arith}
use Rattle.std.specs.Prelude.{◌&&◌, Some, Result, Ok, Err, IsErrAnd, is_some, unwrap_or}
use Rattle.std.proofs.lemmas.List.{take_rest}
use Rattle.reh_model.specs.Cluster.{bookie_named}
use Rattle.reh_commands.specs.declared.commands.LineFault.{LineFault}
use Rattle.reh_commands.specs.declared.commands.LineFault.TheVariants.{BadWords, UnknownName}
use Rattle.reh_commands.specs.declared.words.Kind.{Kind}
use Rattle.reh_commands.specs.declared.words.Kind.TheVariants.{Name}
use Rattle.reh_commands.specs.declared.words.Role.{Role}
use Rattle.reh_commands.specs.declared.words.Arguments.{Arguments}
use Rattle.reh_commands.specs.Script.{arguments_of, are_formed, are_known, kind_of, named_by, with_bookie}
use Rattle.reh_commands.proofs.words.+read_words.Goals as goal

-- the answer by the form, and by the names
abbrev judged : Bool → Bool → Arguments → Result Arguments LineFault
judged formed known a = cond (not formed) (Err BadWords) (cond (not known) (Err UnknownName) (Ok a))

ok_then : (formed known : Bool) (bookie : ℕ) (a b : Arguments) → Ok a ≡ judged formed known b
    → Ok (with_bookie bookie a) ≡ judged formed known (with_bookie bookie b)
ok_then true true bookie a b is = cc
ok_then true false bookie a b is = cc
ok_then false known bookie a b is = cc

err_then : (formed known found : Bool) (fault : LineFault) (a b : Arguments) → Err fault ≡ judged formed known a
    → Err fault ≡ judged formed (found && known) b
err_then true true found fault a b is = cc
err_then true false true fault a b is = is
err_then true false false fault a b is = is
err_then false known found fault a b is = is

-- a bookie's name, and others after it
name_ok : (names : List (List ℕ)) (roles rest : List Role) (role : Role) (all words : List (List ℕ)) (word : List ℕ)
    (bookie : ℕ) (result a : Arguments) → 1 ≤ length roles → rest ≡ drop 1 roles → Name ≡ kind_of (get_or roles 0 role)
    → all ≡ word ∷ words → Some bookie ≡ bookie_named names word → result ≡ with_bookie bookie a
    → Ok a ≡ arguments_of names (map kind_of rest) words → Ok result ≡ arguments_of names (map kind_of roles) all
name_ok names [] rest role all words word bookie result a some left name are found is told = absurd (omega arith)
name_ok names (x ∷ roles) rest role all words word bookie result a some left name are found is told =
    let kinds : List Kind = map kind_of roles in
    ap Ok is
    ∙ ok_then (are_formed kinds words) (are_known names kinds words) bookie a (named_by names kinds words)
    (told ∙ ap (λ roles. arguments_of names (map kind_of roles) words) left)
    ∙ ap (λ o. judged (are_formed kinds words) (is_some o && are_known names kinds words)
    (with_bookie (unwrap_or o 0) (named_by names kinds words))) found
    ∙ ap (λ kind. arguments_of names (kind ∷ kinds) (word ∷ words)) name
    ∙ ap (arguments_of names (kind_of x ∷ kinds)) (sym are)

-- the others after a name name nothing
name_err : (names : List (List ℕ)) (roles rest : List Role) (role : Role) (all words : List (List ℕ)) (word : List ℕ)
    (fault : LineFault) (result : Result Arguments LineFault) → 1 ≤ length roles → rest ≡ drop 1 roles
    → Name ≡ kind_of (get_or roles 0 role) → all ≡ word ∷ words → IsErrAnd result (λ e. e ≡ fault)
    → Err fault ≡ arguments_of names (map kind_of rest) words → result ≡ arguments_of names (map kind_of roles) all
name_err names [] rest role all words word fault result some left name are is told = absurd (omega arith)
name_err names (x ∷ roles) rest role all words word fault (Ok a) some left name are is told = absurd is
name_err names (x ∷ roles) rest role all words word fault (Err e) some left name are is told =
    let kinds : List Kind = map kind_of roles in
    ap Err is
    ∙ err_then (are_formed kinds words) (are_known names kinds words) (is_some (bookie_named names word)) fault
    (named_by names kinds words)
    (with_bookie (unwrap_or (bookie_named names word) 0) (named_by names kinds words))
    (told ∙ ap (λ roles. arguments_of names (map kind_of roles) words) left)
    ∙ ap (λ kind. arguments_of names (kind ∷ kinds) (word ∷ words)) name
    ∙ ap (arguments_of names (kind_of x ∷ kinds)) (sym are)

pub returns-in-Some-find : goal.returns-in-Some-find
returns-in-Some-find t c =
    name_ok c.args.names.now c.args.roles.now _ _ _ _ c.in-Some-next.word.now c.in-Some-find.bookie _
    c.in_ok-others-in-Name.others c.in-len1-up.len_at_least (take_rest c.args.roles.now 1) c.in-Name.ensures c.in-Some-next.ensures
    c.in-Some-find.ensures c.with_bookie.ensures c.in_ok-others-in-Name.ensures

pub returns-in_err-others-in-Name : goal.returns-in_err-others-in-Name
returns-in_err-others-in-Name t c =
    name_err c.args.names.now c.args.roles.now _ _ _ _ c.in-Some-next.word.now c.in_err-others-in-Name.field-0.0 _
    c.in-len1-up.len_at_least (take_rest c.args.roles.now 1) c.in-Name.ensures c.in-Some-next.ensures
    c.from_residual-in_err-others-in-Name.ensures.1 c.in_err-others-in-Name.ensures
