-- The length of an array of vectors, in components: at no node of it is anything at fault. And a constant is a number.
use Rattle.std.proofs.Common.{◌≡◌, ℕ, zero, suc, ◌≤◌, ◌<◌, nat_eq, [], ◌∷◌, Option, None, Some, Bool, true, false}
use Rattle.std.proofs.Common.{◌&&◌, refl, ap, sym, ◌∙◌, subst, arith, inl, inr, ◌⊎◌}
use Rattle.std.proofs.lemmas.Bool.{false≢true}
use Rattle.std.proofs.lemmas.Bool.Decides.{nat_tests}
use Rattle.std.proofs.lemmas.Option.{none-some}
use Rattle.std.specs.Prelude.{codes, decimal}
use Rattle.std.specs.Fmt.{digits}
use Rattle.wg_num.specs.declared.types.IntType.{IntType}
use Rattle.wg_num.specs.declared.types.IntType.TheVariants as types
use Rattle.wg_num.specs.declared.types.Bin.{Bin}
use Rattle.wg_num.specs.declared.types.Bin.TheVariants as bins
use Rattle.wg_num.specs.declared.types.Un.{Un}
use Rattle.wg_num.specs.Types.{same_type}
use Rattle.wg_num.specs.Wrap.{modulus, half}
use Rattle.wg_num.proofs.TypeLaws.{same_type_is}
use Rattle.cl_token.specs.NumberReading.{outcome_of, parts_of}
use Rattle.cl_tree.specs.declared.tree.Form.TheVariants as forms
use Rattle.cl_tree.specs.Syntax.{Syntax, node, none, more}
use Rattle.cl_tree.specs.Nodes.{forest2, forest3}
use Rattle.cl_meaning.specs.Spelling.{declared_in}
use Rattle.cl_meaning.specs.Operators.{binary_in, prefix_in}
use Rattle.cl_meaning.specs.Literals.{literal_in}
use Rattle.cl_meaning.specs.declared.types.Declared.{Declared}
use Rattle.cl_meaning.specs.declared.operators.Prefix.{Prefix}
use Rattle.cl_meaning.specs.declared.operators.Prefix.TheVariants as prefixes
use Rattle.cl_meaning.specs.declared.constant.Constant.{Constant}
use Rattle.cl_meaning.specs.Constants.{constant_of, binary_constant, prefix_constant, both_constant, either_constant}
use Rattle.cl_meaning.specs.Constants.{chosen_constant, cast_constant, unary_constant, number_constant}
use Rattle.cl_meaning.specs.declared.kind.Reach.{Reach}
use Rattle.cl_meaning.specs.declared.kind.Reach.TheVariants as reach
use Rattle.cl_meaning.specs.declared.kind.Kind.{Kind}
use Rattle.cl_meaning.specs.declared.kind.Kind.TheVariants as kinds
use Rattle.cl_meaning.specs.declared.kind.Role.TheVariants as roles
use Rattle.cl_meaning.specs.Environment.{Env}
use Rattle.cl_meaning.specs.Kinds.{number, literal_kind, kind_step, on_one, on_both, binary_kind}
use Rattle.cl_meaning.specs.Kinds.{logic_kind, choice_kind, cast_kind, prefix_kind, operator_kind, pair_kind}
use Rattle.cl_meaning.specs.Visible.{inside, kind_of}
use Rattle.cl_meaning.specs.Faults.{Asked, misfits}
use Rattle.cl_check_sound.specs.Shape.{IsType, OfExpressions}
use Rattle.cl_check_sound.proofs.Assigning.{both_true}
use Rattle.cl_short_vec.specs.declared.nodes.Span.{Span}
use Rattle.cl_short_vec.specs.declared.types.Vector.{Vector}
use Rattle.cl_short_vec.specs.Nodes.{span_of, int_at, paren_at}
use Rattle.cl_short_vec.specs.Unit.{beside, test_at, length_at}
use Rattle.cl_short_vec_faults.proofs.Building.{seen, Good, kind_here}
use Rattle.cl_short_vec_faults.proofs.Nodes.{leaf_good, two_good, three_good, quiet_fine}
use Rattle.cl_short_vec_faults.proofs.Made.{paren_good}

-- ---- numbers of type int

is_int : Option (IntType × ℕ) → Bool
is_int None = false
is_int (Some l) = same_type l.0 types.Int

int_there : (o : Option (IntType × ℕ)) → is_int o ≡ true → literal_kind o ≡ Some (number types.Int)
unfolding is_int
int_there None h = absurd (false≢true h)
int_there (Some l) h = ap (λ z. Some (number z)) (same_type_is l.0 types.Int h)

int_test : ℕ → Bool
unfolding literal_in
int_test n = is_int (literal_in (decimal n))

all_below : ℕ → Bool
all_below zero = true
all_below (suc n) = int_test n && all_below n

some_below : (n c : ℕ) → all_below n ≡ true → c < n → int_test c ≡ true
unfolding all_below
some_below zero c h k = absurd (omega arith)
some_below (suc n) c h k =
    by (nat_eq c n) refl (λ less. some_below n c (both_true (int_test n) (all_below n) h).1 less)
  where
    by : (b : Bool) → nat_eq c n ≡ b → (c < n → int_test c ≡ true) → int_test c ≡ true
    by true e g = let same : c ≡ n = grind (arith, nat_tests) in
        ap int_test same ∙ (both_true (int_test n) (all_below n) h).0
    by false e g = let less : c < n = grind (arith, nat_tests) in g less

-- a number that is at most 16, or the most elements of an array and one
abbrev pub IsSmall : ℕ → Type 0
IsSmall n = (n ≤ 16) ⊎ (n ≡ 1048577)

int_kind : (n : ℕ) → IsSmall n → literal_kind (literal_in (decimal n)) ≡ Some (number types.Int)
unfolding int_test all_below is_int literal_in outcome_of parts_of digits modulus half
int_kind n (inl h) = int_there (literal_in (decimal n)) (some_below 17 n refl (omega arith))
int_kind n (inr h) = subst (λ z. literal_kind (literal_in (decimal z)) ≡ Some (number types.Int)) (sym h)
    (int_there (literal_in (decimal 1048577)) refl)

int_good : (asked : Asked) (env : Env) (n : ℕ) (s : Span) → IsSmall n →
    Good asked env roles.Other (int_at n s) (number types.Int)
unfolding kind_step misfits
int_good asked env n s h =
    leaf_good asked env roles.Other forms.NumberNode (decimal n) s.first s.last (number types.Int) refl refl
    (quiet_fine asked (seen env roles.Other forms.NumberNode (decimal n) s.first none []) refl refl refl) (int_kind n h)

-- ---- the length

module _ (asked : Asked) (env : Env) (s : Span) (e : Syntax) (t : IntType) (p : Reach)
    (x : Good asked env roles.Other e (kinds.Number t p)) where
  operand_good : Good asked env roles.Other (paren_at s e) (kinds.Number t p)
  operand_good = paren_good asked env roles.Other s e (kinds.Number t p) x refl

  above_good : Good asked env roles.Other (beside bins.Gt s e 0) (number types.Int)
  unfolding kind_step misfits binary_in
  above_good = two_good asked env roles.Other forms.OrderNode (codes ">") s.first s.last (number types.Int) refl refl
      (paren_at s e) (int_at 0 s) (kinds.Number t p) (number types.Int) operand_good
      (int_good asked env 0 s (inl (omega arith))) (quiet_fine asked (seen env roles.Other forms.OrderNode (codes ">")
      s.first (forest2 (paren_at s e) (int_at 0 s)) (Some (kinds.Number t p) ∷ Some (number types.Int) ∷ [])) refl refl
      refl) refl

  below_good : Good asked env roles.Other (beside bins.Lt s e 1048577) (number types.Int)
  unfolding kind_step misfits binary_in
  below_good = two_good asked env roles.Other forms.OrderNode (codes "<") s.first s.last (number types.Int) refl refl
      (paren_at s e) (int_at 1048577 s) (kinds.Number t p) (number types.Int) operand_good
      (int_good asked env 1048577 s (inr refl)) (quiet_fine asked (seen env roles.Other forms.OrderNode (codes "<")
      s.first (forest2 (paren_at s e) (int_at 1048577 s)) (Some (kinds.Number t p) ∷ Some (number types.Int) ∷ []))
      refl refl refl) refl

  test_good : Good asked env roles.Other (test_at s e) (number types.Int)
  unfolding kind_step misfits
  test_good = two_good asked env roles.Other forms.AndNode (codes "&&") s.first s.last (number types.Int) refl refl
      (beside bins.Gt s e 0) (beside bins.Lt s e 1048577) (number types.Int) (number types.Int) above_good below_good
      (quiet_fine asked (seen env roles.Other forms.AndNode (codes "&&") s.first
      (forest2 (beside bins.Gt s e 0) (beside bins.Lt s e 1048577))
      (Some (number types.Int) ∷ Some (number types.Int) ∷ [])) refl refl refl) refl

  times_good : (n : ℕ) → n ≤ 16 → (u : IntType) × Good asked env roles.Other (beside bins.Mul s e n) (number u)
  unfolding kind_step misfits binary_in
  times_good n h = (
    _,
    two_good asked env roles.Other forms.TermNode (codes "*") s.first s.last _ refl refl
        (paren_at s e) (int_at n s) (kinds.Number t p) (number types.Int) operand_good
        (int_good asked env n s (inl h)) (quiet_fine asked (seen env roles.Other forms.TermNode (codes "*")
        s.first (forest2 (paren_at s e) (int_at n s)) (Some (kinds.Number t p) ∷ Some (number types.Int) ∷ []))
        refl refl refl) refl,
  )

pub length_good : (asked : Asked) (env : Env) (v : Vector) (e : Syntax) (t : IntType) (p : Reach) → v.count ≤ 16 →
    Good asked env roles.Other e (kinds.Number t p) →
    (u : IntType) × Good asked env roles.Other (length_at v e) (number u)
unfolding kind_step misfits
length_good asked env v e t p h x =
    let s = span_of e in
    let a = test_good asked env s e t p x in
    let b = times_good asked env s e t p x v.count h in
    let c = int_good asked env 0 s (inl (omega arith)) in (
      _,
      three_good asked env roles.Other forms.CondNode (codes "? :") s.first s.last _ refl refl (test_at s e)
          (beside bins.Mul s e v.count) (int_at 0 s) (number types.Int) (number b.0) (number types.Int) a b.1 c
          (quiet_fine asked (seen env roles.Other forms.CondNode (codes "? :") s.first
          (forest3 (test_at s e) (beside bins.Mul s e v.count) (int_at 0 s))
          (Some (number types.Int) ∷ Some (number b.0) ∷ Some (number types.Int) ∷ [])) refl refl refl) refl,
    )

-- ---- a constant is a number

abbrev pub IsNumberKind : Option Kind → Type 0
IsNumberKind a = (t : IntType) × (p : Reach) × (a ≡ Some (kinds.Number t p))

-- where that is a constant, it is a number
abbrev AsNumber : Option Constant → Option Kind → Type 0
AsNumber x a = (c : Constant) → x ≡ Some c → IsNumberKind a

two_numbers : (a b : Option Kind) (g : Kind → Kind → Option Kind) → IsNumberKind a → IsNumberKind b →
    ((t u : IntType) (p q : Reach) → IsNumberKind (g (kinds.Number t p) (kinds.Number u q))) →
    IsNumberKind (on_both a b g)
two_numbers a b g x y h = subst (λ z. IsNumberKind (on_both z b g)) (sym x.2)
    (subst (λ z. IsNumberKind (on_both (Some (kinds.Number x.0 x.1)) z g)) (sym y.2) (h x.0 y.0 x.1 y.1))

binary_number : (o : Option Bin) (x y : Option Constant) (a b : Option Kind) → AsNumber x a → AsNumber y b →
    AsNumber (binary_constant o x y) (on_one o (λ op. pair_kind (binary_kind op) (a ∷ b ∷ [])))
binary_number None x y a b g h c e = absurd (none-some c e)
binary_number (Some op) None y a b g h c e = absurd (none-some c e)
binary_number (Some op) (Some x) None a b g h c e = absurd (none-some c e)
binary_number (Some op) (Some x) (Some y) a b g h c e =
    two_numbers a b (binary_kind op) (g x refl) (h y refl) (λ t u p q. (_, _, refl))

both_number : (x y : Option Constant) (a b : Option Kind) → AsNumber x a → AsNumber y b →
    AsNumber (both_constant x y) (pair_kind logic_kind (a ∷ b ∷ []))
both_number None y a b g h c e = absurd (none-some c e)
both_number (Some x) None a b g h c e = absurd (none-some c e)
both_number (Some x) (Some y) a b g h c e =
    two_numbers a b logic_kind (g x refl) (h y refl) (λ t u p q. (_, _, refl))

either_number : (x y : Option Constant) (a b : Option Kind) → AsNumber x a → AsNumber y b →
    AsNumber (either_constant x y) (pair_kind logic_kind (a ∷ b ∷ []))
either_number None y a b g h c e = absurd (none-some c e)
either_number (Some x) None a b g h c e = absurd (none-some c e)
either_number (Some x) (Some y) a b g h c e =
    two_numbers a b logic_kind (g x refl) (h y refl) (λ t u p q. (_, _, refl))

chosen_number : (w x y : Option Constant) (o a b : Option Kind) → AsNumber w o → AsNumber x a → AsNumber y b →
    AsNumber (chosen_constant w x y) (on_one o (λ z. on_both a b (choice_kind z)))
chosen_number None x y o a b f g h c e = absurd (none-some c e)
chosen_number (Some w) None y o a b f g h c e = absurd (none-some c e)
chosen_number (Some w) (Some x) None o a b f g h c e = absurd (none-some c e)
chosen_number (Some w) (Some x) (Some y) o a b f g h c e =
    let i = f w refl in
    subst (λ z. IsNumberKind (on_one z (λ k. on_both a b (choice_kind k)))) (sym i.2)
    (two_numbers a b (choice_kind (kinds.Number i.0 i.1)) (g x refl) (h y refl) (λ t u p q. (_, _, refl)))

cast_number : (d : Option Declared) (x : Option Constant) (a : Option Kind) → AsNumber x a →
    AsNumber (cast_constant d x) (on_one a (cast_kind d))
cast_number None x a g c e = absurd (none-some c e)
cast_number (Some d) None a g c e = absurd (none-some c e)
cast_number (Some d) (Some x) a g c e =
    let i = g x refl in
    subst (λ z. IsNumberKind (on_one z (cast_kind (Some d)))) (sym i.2) (d.of, reach.Value, refl)

operator_number : (op : Un) (x : Option Constant) (a : Option Kind) → AsNumber x a →
    AsNumber (unary_constant op x) (on_one a (operator_kind op))
operator_number op None a g c e = absurd (none-some c e)
operator_number op (Some x) a g c e =
    let i = g x refl in
    subst (λ z. IsNumberKind (on_one z (operator_kind op))) (sym i.2) (_, _, refl)

prefix_number : (o : Option Prefix) (d : Option Declared) (x : Option Constant) (a : Option Kind) →
    AsNumber x a →
    AsNumber (prefix_constant o d x) (on_one o (λ p. prefix_kind p (a ∷ [])))
prefix_number None d x a g c e = absurd (none-some c e)
prefix_number (Some (prefixes.Operator op)) d x a g c e = operator_number op x a g c e
prefix_number (Some prefixes.Size) d x a g c e = (types.Ulong, reach.Value, refl)
prefix_number (Some prefixes.Address) d x a g c e = absurd (none-some c e)
prefix_number (Some prefixes.Content) d x a g c e = absurd (none-some c e)
prefix_number (Some (prefixes.Step op)) d x a g c e = absurd (none-some c e)

literal_number : (o : Option (IntType × ℕ)) → AsNumber (number_constant o) (literal_kind o)
literal_number None c e = absurd (none-some c e)
literal_number (Some l) c e = (l.0, reach.Value, refl)

type_none : (t : Syntax) → IsType t → constant_of t ≡ None
type_none (node forms.TypeNode w f l none) h = refl
type_none (node forms.TypeNode w f l (more (node forms.SpaceNode w' f' l' none) none)) h = refl
type_none t h = absurd h

part_number : (env : Env) (t : Syntax) → OfExpressions t ⊎ IsType t →
    (OfExpressions t → AsNumber (constant_of t) (kind_of env t)) → AsNumber (constant_of t) (kind_of env t)
part_number env t (inl h) g c e = g h c e
part_number env t (inr h) g c e = absurd (none-some c (sym (type_none t h) ∙ e))

as_kind : (a b : Option Kind) → a ≡ b → IsNumberKind b → IsNumberKind a
as_kind a b e h = subst IsNumberKind (sym e) h

pub constant_number : (env : Env) (t : Syntax) → OfExpressions t → AsNumber (constant_of t) (kind_of env t)
unfolding kind_step inside
constant_number env (node forms.NumberNode w f l none) h c e =
    as_kind _ _ (kind_here env forms.NumberNode w f l none refl tt) (literal_number (literal_in w) c e)
constant_number env (node forms.TruthNode w f l none) h c e =
    as_kind _ _ (kind_here env forms.TruthNode w f l none refl tt) (types.Int, reach.Value, refl)
constant_number env (node forms.ParenNode w f l (more a none)) h c e =
    as_kind _ _ (kind_here env forms.ParenNode w f l (more a none) refl h.1)
    (part_number env a h.1.0 (λ i. constant_number env a i) c e)
constant_number env (node forms.UnaryNode w f l (more a none)) h c e =
    as_kind _ _ (kind_here env forms.UnaryNode w f l (more a none) refl h.1)
    (prefix_number (prefix_in w) (declared_in a) (constant_of a) (kind_of env a)
    (part_number env a h.1.0 (λ i. constant_number env a i)) c e)
constant_number env (node forms.CondNode w f l (more x (more a (more b none)))) h c e =
    as_kind _ _ (kind_here env forms.CondNode w f l (more x (more a (more b none))) refl h.1)
    (chosen_number (constant_of x) (constant_of a) (constant_of b) (kind_of env x) (kind_of env a) (kind_of env b)
    (part_number env x h.1.0 (λ i. constant_number env x i)) (part_number env a h.1.1.0 (λ i. constant_number env a i))
    (part_number env b h.1.1.1.0 (λ i. constant_number env b i)) c e)
constant_number env (node forms.CastNode w f l (more a (more b none))) h c e =
    as_kind _ _ (kind_here env forms.CastNode w f l (more a (more b none)) refl h.1)
    (cast_number (declared_in a) (constant_of b) (kind_of env b)
    (part_number env b h.1.1.0 (λ i. constant_number env b i)) c e)
constant_number env (node forms.AndNode w f l (more a (more b none))) h c e =
    as_kind _ _ (kind_here env forms.AndNode w f l (more a (more b none)) refl h.1)
    (both_number (constant_of a) (constant_of b) (kind_of env a) (kind_of env b)
    (part_number env a h.1.0 (λ i. constant_number env a i))
    (part_number env b h.1.1.0 (λ i. constant_number env b i)) c e)
constant_number env (node forms.OrNode w f l (more a (more b none))) h c e =
    as_kind _ _ (kind_here env forms.OrNode w f l (more a (more b none)) refl h.1)
    (either_number (constant_of a) (constant_of b) (kind_of env a) (kind_of env b)
    (part_number env a h.1.0 (λ i. constant_number env a i))
    (part_number env b h.1.1.0 (λ i. constant_number env b i)) c e)
constant_number env (node forms.BorNode w f l (more a (more b none))) h c e =
    as_kind _ _ (kind_here env forms.BorNode w f l (more a (more b none)) refl h.1)
    (binary_number (binary_in w) (constant_of a) (constant_of b) (kind_of env a) (kind_of env b)
    (part_number env a h.1.0 (λ i. constant_number env a i))
    (part_number env b h.1.1.0 (λ i. constant_number env b i)) c e)
constant_number env (node forms.BxorNode w f l (more a (more b none))) h c e =
    as_kind _ _ (kind_here env forms.BxorNode w f l (more a (more b none)) refl h.1)
    (binary_number (binary_in w) (constant_of a) (constant_of b) (kind_of env a) (kind_of env b)
    (part_number env a h.1.0 (λ i. constant_number env a i))
    (part_number env b h.1.1.0 (λ i. constant_number env b i)) c e)
constant_number env (node forms.BandNode w f l (more a (more b none))) h c e =
    as_kind _ _ (kind_here env forms.BandNode w f l (more a (more b none)) refl h.1)
    (binary_number (binary_in w) (constant_of a) (constant_of b) (kind_of env a) (kind_of env b)
    (part_number env a h.1.0 (λ i. constant_number env a i))
    (part_number env b h.1.1.0 (λ i. constant_number env b i)) c e)
constant_number env (node forms.EqualNode w f l (more a (more b none))) h c e =
    as_kind _ _ (kind_here env forms.EqualNode w f l (more a (more b none)) refl h.1)
    (binary_number (binary_in w) (constant_of a) (constant_of b) (kind_of env a) (kind_of env b)
    (part_number env a h.1.0 (λ i. constant_number env a i))
    (part_number env b h.1.1.0 (λ i. constant_number env b i)) c e)
constant_number env (node forms.OrderNode w f l (more a (more b none))) h c e =
    as_kind _ _ (kind_here env forms.OrderNode w f l (more a (more b none)) refl h.1)
    (binary_number (binary_in w) (constant_of a) (constant_of b) (kind_of env a) (kind_of env b)
    (part_number env a h.1.0 (λ i. constant_number env a i))
    (part_number env b h.1.1.0 (λ i. constant_number env b i)) c e)
constant_number env (node forms.ShiftNode w f l (more a (more b none))) h c e =
    as_kind _ _ (kind_here env forms.ShiftNode w f l (more a (more b none)) refl h.1)
    (binary_number (binary_in w) (constant_of a) (constant_of b) (kind_of env a) (kind_of env b)
    (part_number env a h.1.0 (λ i. constant_number env a i))
    (part_number env b h.1.1.0 (λ i. constant_number env b i)) c e)
constant_number env (node forms.SumNode w f l (more a (more b none))) h c e =
    as_kind _ _ (kind_here env forms.SumNode w f l (more a (more b none)) refl h.1)
    (binary_number (binary_in w) (constant_of a) (constant_of b) (kind_of env a) (kind_of env b)
    (part_number env a h.1.0 (λ i. constant_number env a i))
    (part_number env b h.1.1.0 (λ i. constant_number env b i)) c e)
constant_number env (node forms.TermNode w f l (more a (more b none))) h c e =
    as_kind _ _ (kind_here env forms.TermNode w f l (more a (more b none)) refl h.1)
    (binary_number (binary_in w) (constant_of a) (constant_of b) (kind_of env a) (kind_of env b)
    (part_number env a h.1.0 (λ i. constant_number env a i))
    (part_number env b h.1.1.0 (λ i. constant_number env b i)) c e)
constant_number env (node form w f l none) h c e = absurd (none-some c e)
constant_number env (node form w f l (more a none)) h c e = absurd (none-some c e)
constant_number env (node form w f l (more a (more b none))) h c e = absurd (none-some c e)
constant_number env (node form w f l (more a (more b (more d none)))) h c e = absurd (none-some c e)
constant_number env (node form w f l (more a (more b (more d (more x ps))))) h c e = absurd (none-some c e)
