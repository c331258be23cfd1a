-- New nodes that are not at fault: casts, scaled indices, elements, and pointers that are counted.
use Rattle.std.proofs.Common.{◌≡◌, ℕ, ◌≤◌, List, [], ◌∷◌, Option, None, Some, Bool, true, false, refl, sym, inl, inr}
use Rattle.std.proofs.lemmas.Bool.{false≢true}
use Rattle.std.specs.Prelude.{codes}
use lib.Pointwise.{pointwise}
use Rattle.std.specs.Prelude.{nat_eq}
use Rattle.wg_num.specs.declared.types.IntType.{IntType}
use Rattle.wg_num.specs.declared.types.IntType.TheVariants as types
use Rattle.wg_num.specs.declared.types.Bin.{Bin}
use Rattle.wg_num.specs.declared.types.Bin.TheVariants as bins
use Rattle.cl_model.specs.declared.program.Space.{Space}
use Rattle.cl_model.specs.declared.program.Root.{Root}
use Rattle.cl_tree.specs.declared.tree.Form.TheVariants as forms
use Rattle.cl_tree.specs.Syntax.{Syntax}
use Rattle.cl_tree.specs.Nodes.{forest2}
use Rattle.cl_meaning.specs.Types.{declared_in}
use Rattle.cl_meaning.specs.declared.types.Declared.{Declared}
use Rattle.cl_meaning.specs.Operators.{binary_in, setting_in, prefix_in, postfix_in}
use Rattle.cl_meaning.specs.Operators as operators
use Rattle.cl_meaning.specs.declared.operators.Prefix.{Prefix}
use Rattle.cl_meaning.specs.declared.operators.Prefix.TheVariants as prefixes
use Rattle.cl_meaning.specs.declared.operators.Postfix.{Postfix}
use Rattle.cl_meaning.specs.declared.operators.Postfix.TheVariants as postfixes
use Rattle.cl_meaning.specs.declared.kind.Each.{Each}
use Rattle.cl_meaning.specs.declared.kind.Each.TheVariants as each
use Rattle.cl_meaning.specs.declared.kind.Reach.{Reach}
use Rattle.cl_meaning.specs.declared.kind.Reach.TheVariants as reach
use Rattle.cl_meaning.specs.declared.kind.Kind.TheVariants as kinds
use Rattle.cl_meaning.specs.declared.kind.Role.{Role}
use Rattle.cl_meaning.specs.declared.kind.Role.TheVariants as roles
use Rattle.cl_meaning.specs.Environment.{Env}
use Rattle.cl_meaning.specs.Kinds.{number, cast_kind, kind_step}
use Rattle.cl_meaning.specs.Visible.{kind_of}
use Rattle.cl_meaning.specs.Faults.{Asked, misfits, given, lacks, unassignable}
use Rattle.cl_short_vec.specs.declared.nodes.Span.{Span}
use Rattle.cl_short_vec.specs.declared.types.Vector.{Vector}
use Rattle.cl_short_vec.specs.Nodes.{long_at, paren_at, type_word, typed_at, cast_at, joined_at, element_at, scaled}
use Rattle.cl_short_vec.specs.Nodes.{further, span_of, assigned_at, setting_word}
use Rattle.cl_short_vec.specs.Scalar.{counted, opposite, counted_behind}
use Rattle.cl_short_vec.proofs.Rows.{found}
use Rattle.cl_short_vec_faults.proofs.Building.{seen, Good}
use Rattle.cl_short_vec_faults.proofs.Nodes.{two_good, whole_good, two_kinds, quiet_fine, Tests}
use Rattle.cl_short_vec_faults.proofs.Made.{long_good, number_tests, paren_good, product_good, sum_good, type_good}
use Rattle.cl_short_vec_faults.proofs.Made.{typed_inside, typed_cast, typed_is}

-- ---- casts and indices

number_casts : (o : Option Declared) (t : IntType) (p : Reach) →
    given o (λ d. lacks (cast_kind (Some d)) (Some (kinds.Number t p) ∷ [])) ≡ false
number_casts None t p = refl
number_casts (Some d) t p = refl

pub cast_good : (asked : Asked) (env : Env) (of : IntType) (s : Span) (a : Syntax) (t : IntType) (p : Reach) →
    Good asked env roles.Other a (kinds.Number t p) → Good asked env roles.Other (cast_at of s a) (number of)
unfolding kind_step misfits kind_of
cast_good asked env of s a t p x =
    let inner = paren_good asked env roles.Other s a (kinds.Number t p) x refl in
    let parts = forest2 (typed_at of s) (paren_at s a) in
    whole_good asked env roles.Other forms.CastNode (codes "( )") s.first s.last (number of) refl refl parts
    (None ∷ Some (kinds.Number t p) ∷ []) (inr (typed_is of s), (inl inner.made, tt))
    (type_good asked env (type_word of) s.first s.last (typed_inside of), (inner.sound, tt))
    (two_kinds env (typed_at of s) (paren_at s a) None (Some (kinds.Number t p)) refl inner.kind)
    (quiet_fine asked (seen env roles.Other forms.CastNode (codes "( )") s.first parts
    (None ∷ Some (kinds.Number t p) ∷ [])) refl (number_casts (declared_in (typed_at of s)) t p) refl)
    (typed_cast of s t p)

pub scaled_good : (asked : Asked) (env : Env) (v : Vector) (i : Syntax) (t : IntType) (p : Reach) → v.count ≤ 16 →
    Good asked env roles.Other i (kinds.Number t p) →
    Good asked env roles.Other (scaled v i) (number types.Long)
scaled_good asked env v i t p h x =
    product_good asked env (span_of i) (cast_at types.Long (span_of i) i) (long_at v.count (span_of i))
    (cast_good asked env types.Long (span_of i) i t p x) (long_good asked env roles.Other v.count (span_of i) h)

pub further_good : (asked : Asked) (env : Env) (c : ℕ) (i : Syntax) → c ≤ 16 →
    Good asked env roles.Other i (number types.Long) →
    Good asked env roles.Other (further c i) (number types.Long)
further_good asked env c i h x =
    sum_good asked env (span_of i) i (long_at c (span_of i)) x (long_good asked env roles.Other c (span_of i) h)

-- ---- elements

pub element_good : (asked : Asked) (env : Env) (role : Role) (at : Span) (a i : Syntax) (s : Space) (e : IntType)
    (c : Bool) (r : Root) (q : Reach) (t : IntType) (p : Reach) →
    Good asked env roles.Other a (kinds.Pointer s e c r each.Element q) →
    Good asked env roles.Other i (kinds.Number t p) →
    Good asked env role (element_at at a i) (kinds.Number e (reach.Element s c r))
unfolding kind_step misfits postfix_in
element_good asked env role at a i s e c r q t p x y =
    two_good asked env role forms.PostfixNode (codes "[ ]") at.first at.last (kinds.Number e (reach.Element s c r)) refl
    refl a i (kinds.Pointer s e c r each.Element q) (kinds.Number t p) x y (record {
      known = refl;
      fit = refl;
      tested = number_tests role e (reach.Element s c r);
      counted = refl;
      passed = refl;
      assignable = refl;
      written = refl;
      ends = refl;
      rooted = refl;
      flagged = refl;
    }) refl

-- ---- pointers that are counted

-- a variable that may be assigned
pub pointer_set : (s : Space) (e : IntType) (c : Bool) (r : Root) (i : Each) (q : Reach) →
    unassignable (kinds.Pointer s e c r i q) ≡ false → q ≡ reach.Variable false
pointer_set s e c r i (reach.Variable false) h = refl
pointer_set s e c r i (reach.Variable true) h = absurd (false≢true (sym h))
pointer_set s e c r i reach.Value h = absurd (false≢true (sym h))
pointer_set s e c r i (reach.Object s' c') h = absurd (false≢true (sym h))
pointer_set s e c r i (reach.Element s' c' r') h = absurd (false≢true (sym h))

-- the operators of `++` and `--`
abbrev pub IsStepping : Bin → Type 0
IsStepping bins.Add = Unit {0}
IsStepping bins.Sub = Unit {0}
IsStepping op = ⊥

abbrev pub SteppingBefore : Option Prefix → Type 0
SteppingBefore (Some (prefixes.Step op)) = IsStepping op
SteppingBefore o = Unit {0}

abbrev pub SteppingBehind : Option Postfix → Type 0
SteppingBehind (Some (postfixes.Step op)) = IsStepping op
SteppingBehind o = Unit {0}

pub prefix_steps : (w : List ℕ) → SteppingBefore (prefix_in w)
unfolding prefix_in
prefix_steps w = found SteppingBefore (pointwise nat_eq w) operators.prefixes tt
    (tt, (tt, (tt, (tt, (tt, (tt, (tt, (tt, (tt, tt)))))))))

pub postfix_steps : (w : List ℕ) → SteppingBehind (postfix_in w)
unfolding postfix_in
postfix_steps w = found SteppingBehind (pointwise nat_eq w) operators.postfixes tt (tt, (tt, (tt, tt)))

module _ (asked : Asked) (env : Env) (v : Vector) (at : Span) (a : Syntax) (s : Space) (e : IntType) (c : Bool)
    (r : Root) (small : v.count ≤ 16)
    (x : Good asked env roles.Other a (kinds.Pointer s e c r each.Element (reach.Variable false))) where
  set_good : (op : Bin) → IsStepping op →
      Good asked env roles.Other (assigned_at (setting_word op) at a (long_at v.count at))
      (kinds.Pointer s e c r each.Element reach.Value)
  unfolding kind_step misfits setting_in
  set_good bins.Add h =
      two_good asked env roles.Other forms.AssignNode (setting_word bins.Add) at.first at.last
      (kinds.Pointer s e c r each.Element reach.Value) refl refl a (long_at v.count at)
      (kinds.Pointer s e c r each.Element (reach.Variable false)) (number types.Long) x
      (long_good asked env roles.Other v.count at small) (record {
        known = refl;
        fit = refl;
        tested = refl;
        counted = refl;
        passed = refl;
        assignable = refl;
        written = refl;
        ends = refl;
        rooted = refl;
        flagged = refl;
      }) refl
  set_good bins.Sub h =
      two_good asked env roles.Other forms.AssignNode (setting_word bins.Sub) at.first at.last
      (kinds.Pointer s e c r each.Element reach.Value) refl refl a (long_at v.count at)
      (kinds.Pointer s e c r each.Element (reach.Variable false)) (number types.Long) x
      (long_good asked env roles.Other v.count at small) (record {
        known = refl;
        fit = refl;
        tested = refl;
        counted = refl;
        passed = refl;
        assignable = refl;
        written = refl;
        ends = refl;
        rooted = refl;
        flagged = refl;
      }) refl
  set_good op h = absurd h

  pub counted_good : (op : Bin) → IsStepping op → (role : Role) →
      Tests role (kinds.Pointer s e c r each.Element reach.Value) →
      Good asked env role (counted op v at a) (kinds.Pointer s e c r each.Element reach.Value)
  counted_good op h role t = paren_good asked env role at (assigned_at (setting_word op) at a (long_at v.count at))
      (kinds.Pointer s e c r each.Element reach.Value) (set_good op h) t

  back_good : (op : Bin) → IsStepping op →
      Good asked env roles.Other (joined_at (opposite op) at (counted op v at a) (long_at v.count at))
      (kinds.Pointer s e c r each.Element reach.Value)
  unfolding kind_step misfits binary_in
  back_good bins.Add h =
      two_good asked env roles.Other forms.SumNode (codes "-") at.first at.last
      (kinds.Pointer s e c r each.Element reach.Value) refl refl (counted bins.Add v at a) (long_at v.count at)
      (kinds.Pointer s e c r each.Element reach.Value) (number types.Long) (counted_good bins.Add tt roles.Other refl)
      (long_good asked env roles.Other v.count at small) (quiet_fine asked (seen env roles.Other forms.SumNode
      (codes "-") at.first (forest2 (counted bins.Add v at a) (long_at v.count at))
      (Some (kinds.Pointer s e c r each.Element reach.Value) ∷ Some (number types.Long) ∷ [])) refl refl refl) refl
  back_good bins.Sub h =
      two_good asked env roles.Other forms.SumNode (codes "+") at.first at.last
      (kinds.Pointer s e c r each.Element reach.Value) refl refl (counted bins.Sub v at a) (long_at v.count at)
      (kinds.Pointer s e c r each.Element reach.Value) (number types.Long) (counted_good bins.Sub tt roles.Other refl)
      (long_good asked env roles.Other v.count at small) (quiet_fine asked (seen env roles.Other forms.SumNode
      (codes "+") at.first (forest2 (counted bins.Sub v at a) (long_at v.count at))
      (Some (kinds.Pointer s e c r each.Element reach.Value) ∷ Some (number types.Long) ∷ [])) refl refl refl) refl
  back_good op h = absurd h

  pub behind_good : (op : Bin) → IsStepping op → (role : Role) →
      Tests role (kinds.Pointer s e c r each.Element reach.Value) →
      Good asked env role (counted_behind op v at a) (kinds.Pointer s e c r each.Element reach.Value)
  behind_good op h role t = paren_good asked env role at
      (joined_at (opposite op) at (counted op v at a) (long_at v.count at))
      (kinds.Pointer s e c r each.Element reach.Value) (back_good op h) t
