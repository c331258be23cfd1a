-- An expression of which no node is at fault has a kind: each production.
use Rattle.std.proofs.Common.{◌≡◌, ℕ, suc, List, [], ◌∷◌, length, Option, None, Some, Bool, true, false, not, ◌&&◌}
use Rattle.std.proofs.Common.{◌||◌, refl, ap, sym, ◌∙◌, subst, if◌then◌else◌}
use Rattle.std.proofs.lemmas.Bool.{false≢true}
use Rattle.wg_num.specs.declared.types.IntType.TheVariants as types
use Rattle.wg_num.specs.declared.types.Bin.{Bin}
use Rattle.cl_meaning.specs.declared.operators.Prefix.{Prefix}
use Rattle.cl_meaning.specs.declared.operators.Prefix.TheVariants as prefixes
use Rattle.cl_meaning.specs.declared.operators.Postfix.{Postfix}
use Rattle.cl_meaning.specs.declared.operators.Postfix.TheVariants as postfixes
use Rattle.cl_meaning.specs.declared.operators.Setting.{Setting}
use Rattle.cl_meaning.specs.declared.kind.Kind.{Kind}
use Rattle.cl_meaning.specs.Kinds.{is_some, on_one, on_both, pair_kind, binary_kind, choice_kind, choice_part_kind}
use Rattle.cl_meaning.specs.Kinds.{is_target, is_fixed, is_constant_memory, assignable, value_fits, root_changes}
use Rattle.cl_meaning.specs.Kinds.{value_kind, set_kind, step_kind, prefix_kind, postfix_kind, index_kind, all_known}
use Rattle.cl_meaning.specs.Kinds.{Callee, defined, undefined, known, arity_fits, call_fits, call_result, call_kind}
use Rattle.cl_meaning.specs.Kinds.{result_kind, number}
use Rattle.cl_meaning.specs.Faults.{Asked, given, given_pair, given_first, lacks_pair, setting_misfits}
use Rattle.cl_meaning.specs.Faults.{unassignable, choice_misfits, prefix_misfits, prefix_assigns, postfix_misfits}
use Rattle.cl_meaning.specs.Faults.{postfix_assigns, is_called}
use Rattle.cl_check_sound.specs.Shape.{indexes}
use Rattle.cl_check_sound.proofs.Cases.{the_some}
use Rattle.cl_short_vec_faults.specs.Law.{CalleeGives}

pub not_false : (b : Bool) → not b ≡ false → b ≡ true
not_false true h = refl
not_false false h = absurd (false≢true (sym h))

pub second_false : (a b : Bool) → a ≡ true → (a && b) ≡ false → b ≡ false
second_false true b e h = h
second_false false b e h = absurd (false≢true e)

-- a kind that is known
abbrev pub IsKnown : Option Kind → Type 0
IsKnown k = (j : Kind) × (k ≡ Some j)

-- ---- operators on two operands

pub pair_known : (g : Kind → Kind → Option Kind) (a b : Kind) → lacks_pair g (Some a ∷ Some b ∷ []) ≡ false →
    IsKnown (g a b)
pair_known g a b h = the_some (g a b) (not_false (is_some (g a b)) h)

pub binary_known : (o : Option Bin) (a b : Kind) → is_some o ≡ true →
    given o (λ op. lacks_pair (binary_kind op) (Some a ∷ Some b ∷ [])) ≡ false →
    IsKnown (on_one o (λ op. pair_kind (binary_kind op) (Some a ∷ Some b ∷ [])))
binary_known None a b h k = absurd (false≢true h)
binary_known (Some op) a b h k = pair_known (binary_kind op) a b k

pub choice_known : (c a b : Kind) → choice_misfits (Some c ∷ Some a ∷ Some b ∷ []) ≡ false →
    IsKnown (choice_part_kind (Some c ∷ Some a ∷ Some b ∷ []))
choice_known c a b h = the_some (choice_kind c a b) (not_false (is_some (choice_kind c a b)) h)

-- ---- assignments

assigned : (t f m : Bool) → (not t || (f && not m)) ≡ false → m ≡ false → (t ≡ true) × ((t && not (f || m)) ≡ true)
assigned t f true h k = absurd (false≢true (sym k))
assigned false f false h k = absurd (false≢true (sym h))
assigned true true false h k = absurd (false≢true (sym h))
assigned true false false h k = (refl, refl)

pub step_known : (a : Kind) → unassignable a ≡ false → is_constant_memory a ≡ false → step_kind a ≡ Some (value_kind a)
step_known a h k = rw (assigned (is_target a) (is_fixed a) (is_constant_memory a) h k).1 refl

pub set_known : (s : Setting) (a b : Kind) → (is_target a && not (value_fits s a b)) ≡ false →
    unassignable a ≡ false → is_constant_memory a ≡ false → (is_target a && root_changes s a b) ≡ false →
    set_kind s a b ≡ Some (value_kind a)
set_known s a b v h k r =
    let x = assigned (is_target a) (is_fixed a) (is_constant_memory a) h k in
    by (assignable a) (value_fits s a b) (root_changes s a b) x.1
    (second_false (is_target a) (not (value_fits s a b)) x.0 v)
    (second_false (is_target a) (root_changes s a b) x.0 r)
  where
    by : (x y z : Bool) → x ≡ true → not y ≡ false → z ≡ false →
        (if x && (y && not z) then Some (value_kind a) else None) ≡ Some (value_kind a)
    by true true false e f g = refl
    by true true true e f g = absurd (false≢true (sym g))
    by true false z e f g = absurd (false≢true (sym f))
    by false y z e f g = absurd (false≢true e)

pub setting_known : (o : Option Setting) (a b : Kind) → is_some o ≡ true →
    given o (setting_misfits (Some a ∷ Some b ∷ [])) ≡ false → unassignable a ≡ false →
    is_constant_memory a ≡ false →
    given o (λ s. given_pair (Some a ∷ Some b ∷ []) (λ x y. is_target x && root_changes s x y)) ≡ false →
    on_one o (λ s. pair_kind (set_kind s) (Some a ∷ Some b ∷ [])) ≡ Some (value_kind a)
setting_known None a b h v u k r = absurd (false≢true h)
setting_known (Some s) a b h v u k r = set_known s a b v u k r

-- ---- prefixes and postfixes

pub prefix_known : (o : Option Prefix) (a : Kind) → is_some o ≡ true →
    given o (prefix_misfits (Some a ∷ [])) ≡ false →
    (given o prefix_assigns && given_first (Some a ∷ []) unassignable) ≡ false →
    (given o prefix_assigns && given_first (Some a ∷ []) is_constant_memory) ≡ false →
    IsKnown (on_one o (λ p. prefix_kind p (Some a ∷ [])))
prefix_known None a h m u k = absurd (false≢true h)
prefix_known (Some (prefixes.Operator op)) a h m u k = the_some _ (not_false _ m)
prefix_known (Some prefixes.Address) a h m u k = the_some _ (not_false _ m)
prefix_known (Some prefixes.Content) a h m u k = the_some _ (not_false _ m)
prefix_known (Some (prefixes.Step op)) a h m u k = (value_kind a, step_known a u k)
prefix_known (Some prefixes.Size) a h m u k = (number types.Ulong, refl)

pub postfix_known : (o : Option Postfix) (a : Kind) → is_some o ≡ true → indexes o ≡ false →
    (given o postfix_assigns && given_first (Some a ∷ []) unassignable) ≡ false →
    (given o postfix_assigns && given_first (Some a ∷ []) is_constant_memory) ≡ false →
    on_one o (λ p. postfix_kind p (Some a ∷ [])) ≡ Some (value_kind a)
postfix_known None a h i u k = absurd (false≢true h)
postfix_known (Some postfixes.Index) a h i u k = absurd (false≢true (sym i))
postfix_known (Some (postfixes.Step op)) a h i u k = step_known a u k

pub index_known : (o : Option Postfix) (a b : Kind) → indexes o ≡ true →
    given o (postfix_misfits (Some a ∷ Some b ∷ [])) ≡ false →
    IsKnown (on_one o (λ p. postfix_kind p (Some a ∷ Some b ∷ []))) × IsKnown (index_kind a b)
index_known None a b h m = absurd (false≢true h)
index_known (Some (postfixes.Step op)) a b h m = absurd (false≢true h)
index_known (Some postfixes.Index) a b h m = (pair_known index_kind a b m, pair_known index_kind a b m)

-- ---- calls

abbrev pub somes : List Kind → List (Option Kind)
somes [] = []
somes (k ∷ ks) = Some k ∷ somes ks

pub somes_known : (ks : List Kind) → all_known (somes ks) ≡ Some ks
somes_known [] = refl
somes_known (k ∷ ks) = ap (λ z. on_both (Some k) z (λ a as'. Some (a ∷ as'))) (somes_known ks)

pub somes_many : (ks : List Kind) → length (somes ks) ≡ length ks
somes_many [] = refl
somes_many (k ∷ ks) = ap suc (somes_many ks)

result_known : (asked : Asked) (q : List ℕ) (c : Callee) (ks : List Kind) → CalleeGives asked q c →
    (Some c ≡ Some undefined → is_called asked.missing q ≡ true) → IsKnown (call_result c ks)
result_known asked q (defined n g) ks h l = the_some (result_kind g.result) h
result_known asked q undefined ks h l = absurd (false≢true (sym h ∙ l refl))
result_known asked q (known i) ks h l = (_, refl)

found : (c : Callee) (ks : List Kind) → IsKnown (call_result c ks) → arity_fits c (length ks) ≡ true →
    call_fits c ks ≡ true → IsKnown (call_kind c ks)
found c ks r a f = by (arity_fits c (length ks)) (call_fits c ks) a f
  where
    by : (x y : Bool) → x ≡ true → y ≡ true → IsKnown (if x && y then call_result c ks else None)
    by true true a b = r
    by true false a b = absurd (false≢true b)
    by false y a b = absurd (false≢true a)

pub call_known : (asked : Asked) (q : List ℕ) (o : Option Callee) (ks : List Kind) →
    ((c : Callee) → o ≡ Some c → CalleeGives asked q c) → (o ≡ Some undefined → is_called asked.missing q ≡ true) →
    not (is_some o) ≡ false → given o (λ c. not (arity_fits c (length (somes ks)))) ≡ false →
    given o (λ c. given (all_known (somes ks)) (λ as'. arity_fits c (length as') && not (call_fits c as'))) ≡ false →
    IsKnown (on_both o (all_known (somes ks)) call_kind)
call_known asked q None ks g l u n a = absurd (false≢true (sym u))
call_known asked q (Some c) ks g l u n a =
    let arity = not_false (arity_fits c (length ks)) (ap (λ z. not (arity_fits c z)) (sym (somes_many ks)) ∙ n) in
    let fits = not_false (call_fits c ks) (second_false (arity_fits c (length ks)) (not (call_fits c ks)) arity
    (ap (λ z. given z (λ as'. arity_fits c (length as') && not (call_fits c as'))) (sym (somes_known ks)) ∙ a)) in
    subst (λ z. IsKnown (on_both (Some c) z call_kind)) (sym (somes_known ks))
    (found c ks (result_known asked q c ks (g c refl) l) arity fits)
