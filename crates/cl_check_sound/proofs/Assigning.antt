-- The pieces of assignments have their types.
use Rattle.std.proofs.Common.{◌≡◌, ◌≢◌, ℕ, pos, [], ◌∷◌, None, Some, Bool, true, false, not, ◌&&◌, ◌||◌, refl, ap}
use Rattle.std.proofs.Common.{sym, ◌∙◌, subst, arith, if◌then◌else◌}
use Rattle.std.proofs.lemmas.Option.{none-some, same_Some}
use Rattle.std.proofs.lemmas.Bool.{false≢true}
use Rattle.wg_num.specs.declared.types.IntType.{IntType}
use Rattle.wg_num.specs.declared.types.IntType.TheVariants as types
use Rattle.wg_num.specs.declared.types.Bin.{Bin}
use Rattle.wg_num.specs.declared.types.Bin.TheVariants as bins
use Rattle.std.proofs.lemmas.Int.{ints}
use Rattle.wg_num.specs.Wrap.{IsValue, half, modulus}
use Rattle.cl_model.specs.declared.program.Space.{Space}
use Rattle.cl_model.specs.declared.program.Space.TheVariants as spaces
use Rattle.cl_model.specs.declared.program.Root.{Root}
use Rattle.cl_model.specs.declared.program.VarKind.{VarKind}
use Rattle.cl_model.specs.declared.program.VarKind.TheVariants as var_kinds
use Rattle.cl_model.specs.Tree as tree
use Rattle.cl_model.specs.Tree.{Expression, Function, Program, Apply, single, pair}
use Rattle.cl_model.specs.Valid.{RootIs, HasType, RightFits, CanStore, kind_type}
use Rattle.cl_meaning.specs.declared.operators.Setting.{Setting}
use Rattle.cl_meaning.specs.declared.operators.Setting.TheVariants as settings
use Rattle.cl_meaning.specs.Conversions.{operand_type, right_type}
use Rattle.cl_meaning.specs.declared.kind.Each.{Each}
use Rattle.cl_meaning.specs.declared.kind.Each.TheVariants as each
use Rattle.cl_meaning.specs.declared.kind.Reach.{Reach}
use Rattle.cl_meaning.specs.declared.kind.Reach.TheVariants as reach
use Rattle.cl_meaning.specs.declared.kind.Kind.{Kind}
use Rattle.cl_meaning.specs.declared.kind.Kind.TheVariants as kinds
use Rattle.cl_meaning.specs.Kinds.{is_target, is_fixed, is_constant_memory, is_constant, assignable, value_fits}
use Rattle.cl_meaning.specs.Kinds.{root_changes, value_kind, set_kind, step_kind}
use Rattle.cl_meaning.specs.Typed.{What, Piece}
use Rattle.cl_meaning.specs.Expressions.{literal, read, type_in, operand, assigned, updated, set_what, step_what}
use Rattle.cl_check_sound.specs.Fits.{Holds, ReachFits, PointerFits, KindFits}
use Rattle.cl_check_sound.proofs.Typing.{operand_typed, right_fits, literal_typed}

pub if_some : {A : Type 0} (b : Bool) (x y : A) → (if b then Some x else None) ≡ Some y → (b ≡ true) × (x ≡ y)
if_some true x y h = (refl, same_Some x y h)
if_some false x y h = absurd (none-some y h)

pub both_true : (a b : Bool) → (a && b) ≡ true → (a ≡ true) × (b ≡ true)
both_true true b h = (refl, h)
both_true false b h = absurd (false≢true h)

pub is_not : (a : Bool) → not a ≡ true → a ≡ false
is_not true h = absurd (false≢true h)
is_not false h = refl

neither : (a b : Bool) → (a || b) ≡ false → (a ≡ false) × (b ≡ false)
neither true b h = absurd (false≢true (sym h))
neither false b h = (refl, h)

-- what can be assigned is a target, and lies in no constant memory
pub assignable_parts : (a : Kind) → assignable a ≡ true → (is_target a ≡ true) × (is_constant_memory a ≡ false)
assignable_parts a h =
    let p = both_true (is_target a) (not (is_fixed a || is_constant_memory a)) h in
    (p.0, (neither (is_fixed a) (is_constant_memory a) (is_not (is_fixed a || is_constant_memory a) p.1)).1)

-- a space that is not constant
not_constant : (s : Space) → is_constant s ≡ false → s ≢ spaces.Constant
not_constant s h e = false≢true (sym h ∙ ap is_constant e)

can_store : (P : Program) (f : Function) (s : Space) (r : Root) (t : IntType) → is_constant s ≡ false →
    RootIs P f r s t → CanStore P f r t
can_store P f s r t h x = (s, x, not_constant s h)

-- ---- a value for a target

set_variable : (P : Program) (f : Function) (x : ℕ) (kind : VarKind) (v : Expression) → Holds f x kind →
    HasType P f v (kind_type kind) → HasType P f (Apply (tree.Set x) (single v)) (kind_type kind)
set_variable P f x kind v h y = (kind_type kind ∷ [], (y, tt), ((kind, h, refl), refl))

set_element : (P : Program) (f : Function) (site : ℕ) (t : IntType) (r : Root) (i v : Expression) → CanStore P f r t →
    HasType P f i types.Long → HasType P f v t → HasType P f (Apply (tree.Store site t r) (pair i v)) t
set_element P f site t r i v h x y = (types.Long ∷ t ∷ [], (x, (y, tt)), (refl, refl, h, refl))

change_variable : (P : Program) (f : Function) (x : ℕ) (kind : VarKind) (op : Bin) (of right : IntType) (old : Bool)
    (v : Expression) → Holds f x kind → RightFits op of right → HasType P f v right →
    HasType P f (Apply (tree.Change x op of (kind_type kind) old) (pair (Apply (tree.Variable x) tree.none) v))
    (kind_type kind)
change_variable P f x kind op of right old v h r y =
    (kind_type kind ∷ right ∷ [], (([], tt, (kind, h, refl)), (y, tt)), ((kind, h, refl), refl, r, refl))

update_element : (P : Program) (f : Function) (site : ℕ) (t : IntType) (r : Root) (op : Bin) (of right : IntType)
    (old : Bool) (i v : Expression) → CanStore P f r t → RightFits op of right → HasType P f i types.Long →
    HasType P f v right →
    HasType P f (tree.Update site t r op of t old i v) t
update_element P f site t r op of right old i v h e x y = (x, (right, y, e), h, refl, refl)

-- a number assigned
pub number_assigned : (P : Program) (f : Function) (t : IntType) (p : Reach) (w : What) (v : Expression) →
    is_target (kinds.Number t p) ≡ true → is_constant_memory (kinds.Number t p) ≡ false → ReachFits P f t p w →
    HasType P f v t → HasType P f (read (assigned w v)) t
number_assigned P f t reach.Value w v g m h y = absurd (false≢true g)
number_assigned P f t (reach.Variable c) w v g m h y =
    subst (λ z. HasType P f (read (assigned z v)) t) (sym h.1) (set_variable P f h.0 (var_kinds.Scalar t) v h.2 y)
number_assigned P f t (reach.Object s c) w v g m h y =
    subst (λ z. HasType P f (read (assigned z v)) t) (sym h.3)
    (set_element P f h.0 t h.1 h.2 v (can_store P f s h.1 t m h.4) h.5 y)
number_assigned P f t (reach.Element s c r) w v g m h y =
    subst (λ z. HasType P f (read (assigned z v)) t) (sym h.2)
    (set_element P f h.0 t r h.1 v (can_store P f s r t m h.3) h.4 y)

pub number_updated : (P : Program) (f : Function) (t : IntType) (p : Reach) (w : What) (op : Bin) (of right : IntType)
    (old : Bool) (v : Expression) → is_target (kinds.Number t p) ≡ true →
    is_constant_memory (kinds.Number t p) ≡ false → ReachFits P f t p w → RightFits op of right → HasType P f v right →
    HasType P f (read (updated w op of t old v)) t
number_updated P f t reach.Value w op of right old v g m h e y = absurd (false≢true g)
number_updated P f t (reach.Variable c) w op of right old v g m h e y =
    subst (λ z. HasType P f (read (updated z op of t old v)) t) (sym h.1)
    (change_variable P f h.0 (var_kinds.Scalar t) op of right old v h.2 e y)
number_updated P f t (reach.Object s c) w op of right old v g m h e y =
    subst (λ z. HasType P f (read (updated z op of t old v)) t) (sym h.3)
    (update_element P f h.0 t h.1 op of right old h.2 v (can_store P f s h.1 t m h.4) e h.5 y)
number_updated P f t (reach.Element s c r) w op of right old v g m h e y =
    subst (λ z. HasType P f (read (updated z op of t old v)) t) (sym h.2)
    (update_element P f h.0 t r op of right old h.1 v (can_store P f s r t m h.3) e h.4 y)

-- a pointer assigned: its offset, a long
pub pointer_assigned : (P : Program) (f : Function) (s : Space) (t : IntType) (c : Bool) (r : Root) (i : Each)
    (p : Reach) (w : What) (v : Expression) → is_target (kinds.Pointer s t c r i p) ≡ true →
    PointerFits P f s t r p w → HasType P f v types.Long → HasType P f (read (assigned w v)) types.Long
pointer_assigned P f s t c r i (reach.Variable d) w v g h y =
    subst (λ z. HasType P f (read (assigned z v)) types.Long) (sym h.1)
    (set_variable P f h.0 (var_kinds.Pointer s t r) v h.2 y)
pointer_assigned P f s t c r i _ w v g h y = absurd (false≢true g)

pub pointer_updated : (P : Program) (f : Function) (s : Space) (t : IntType) (c : Bool) (r : Root) (i : Each)
    (p : Reach) (w : What) (op : Bin) (old : Bool) (v : Expression) → is_target (kinds.Pointer s t c r i p) ≡ true →
    PointerFits P f s t r p w → RightFits op types.Long types.Long → HasType P f v types.Long →
    HasType P f (read (updated w op types.Long types.Long old v)) types.Long
pointer_updated P f s t c r i (reach.Variable d) w op old v g h e y =
    subst (λ z. HasType P f (read (updated z op types.Long types.Long old v)) types.Long) (sym h.1)
    (change_variable P f h.0 (var_kinds.Pointer s t r) op types.Long types.Long old v h.2 e y)
pointer_updated P f s t c r i _ w op old v g h e y = absurd (false≢true g)

-- ---- assignments

-- what may be assigned, and what fits it
set_parts : (s : Setting) (j k r : Kind) → set_kind s j k ≡ Some r → (is_target j ≡ true) ×
    (is_constant_memory j ≡ false) × (value_fits s j k ≡ true) × (value_kind j ≡ r)
set_parts s j k r h =
    let p = if_some (assignable j && (value_fits s j k && not (root_changes s j k))) (value_kind j) r h in
    let q = both_true (assignable j) (value_fits s j k && not (root_changes s j k)) p.0 in
    let a = assignable_parts j q.0 in
    (a.0, a.1, (both_true (value_fits s j k) (not (root_changes s j k)) q.1).0, p.1)

set_fits_value : (P : Program) (f : Function) (s : Setting) (a b : Piece) (j k : Kind) → a.kind ≡ Some j →
    b.kind ≡ Some k → KindFits P f j a.what → KindFits P f k b.what →
    is_target j ≡ true → is_constant_memory j ≡ false → value_fits s j k ≡ true →
    KindFits P f (value_kind j) (set_what s a b (Some j))
set_fits_value P f settings.Plain a b (kinds.Number t p) (kinds.Number u q) d e x y g m v =
    (number_assigned P f t p a.what (operand t b) g m x.1 (operand_typed P f t u q b e y.0), tt)
set_fits_value P f (settings.With op) a b (kinds.Number t p) (kinds.Number u q) d e x y g m v =
    subst (λ z. KindFits P f (kinds.Number t reach.Value) (updated a.what op (operand_type op t z) t false
    (operand (right_type op t z) b))) (ap type_in (sym e)) (
      number_updated P f t p a.what op (operand_type op t u) (right_type op t u) false (operand (right_type op t u) b)
          g m x.1 (right_fits op t u) (operand_typed P f (right_type op t u) u q b e y.0),
      tt,
    )
set_fits_value P f settings.Plain a b (kinds.Pointer s t c r i p) (kinds.Pointer s' t' c' r' each.Element q) d e x y g
    m v = (pointer_assigned P f s t c r i p a.what (read b.what) g x.2 y.0, x.1, tt, x.3)
set_fits_value P f (settings.With bins.Add) a b (kinds.Pointer s t c r i p) (kinds.Number u q) d e x y g m v = (
  pointer_updated P f s t c r i p a.what bins.Add false (operand types.Long b) g x.2 (λ z. refl)
      (operand_typed P f types.Long u q b e y.0),
  x.1,
  tt,
  x.3,
)
set_fits_value P f (settings.With bins.Sub) a b (kinds.Pointer s t c r i p) (kinds.Number u q) d e x y g m v = (
  pointer_updated P f s t c r i p a.what bins.Sub false (operand types.Long b) g x.2 (λ z. refl)
      (operand_typed P f types.Long u q b e y.0),
  x.1,
  tt,
  x.3,
)
set_fits_value P f s a b j k d e x y g m v = absurd (false≢true v)

pub set_fits : (P : Program) (f : Function) (s : Setting) (a b : Piece) (j k r : Kind) → a.kind ≡ Some j →
    b.kind ≡ Some k → KindFits P f j a.what → KindFits P f k b.what → set_kind s j k ≡ Some r →
    KindFits P f r (set_what s a b (Some j))
set_fits P f s a b j k r d e x y h =
    let p = set_parts s j k r h in
    subst (λ z. KindFits P f z (set_what s a b (Some j))) p.3 (set_fits_value P f s a b j k d e x y p.0 p.1 p.2)

-- ---- ++ and --

pub one_value : (t : IntType) → IsValue t (pos 1)
unfolding half modulus
one_value types.Bool = record { low = omega (arith, ints); high = omega (arith, ints) }
one_value types.Char = record { low = omega (arith, ints); high = omega (arith, ints) }
one_value types.Uchar = record { low = omega (arith, ints); high = omega (arith, ints) }
one_value types.Short = record { low = omega (arith, ints); high = omega (arith, ints) }
one_value types.Ushort = record { low = omega (arith, ints); high = omega (arith, ints) }
one_value types.Int = record { low = omega (arith, ints); high = omega (arith, ints) }
one_value types.Uint = record { low = omega (arith, ints); high = omega (arith, ints) }
one_value types.Long = record { low = omega (arith, ints); high = omega (arith, ints) }
one_value types.Ulong = record { low = omega (arith, ints); high = omega (arith, ints) }

step_fits_value : (P : Program) (f : Function) (op : Bin) (old : Bool) (a : Piece) (j : Kind) →
    KindFits P f j a.what → is_target j ≡ true → is_constant_memory j ≡ false →
    KindFits P f (value_kind j) (step_what op old a (Some j))
step_fits_value P f op old a (kinds.Number t p) x g m = (
  number_updated P f t p a.what op (operand_type op t types.Int) (operand_type op t types.Int) old
      (literal (pos 1) (operand_type op t types.Int)) g m x.1 (λ z. refl)
      (literal_typed P f (pos 1) (operand_type op t types.Int) (one_value (operand_type op t types.Int))),
  tt,
)
step_fits_value P f op old a (kinds.Pointer s t c r i p) x g m = (
  pointer_updated P f s t c r i p a.what op old (literal (pos 1) types.Long) g x.2 (λ z. refl)
      (literal_typed P f (pos 1) types.Long (one_value types.Long)),
  x.1,
  tt,
  x.3,
)
step_fits_value P f op old a kinds.Nothing x g m = absurd (false≢true g)

pub step_fits : (P : Program) (f : Function) (op : Bin) (old : Bool) (a : Piece) (j r : Kind) →
    KindFits P f j a.what → step_kind j ≡ Some r → KindFits P f r (step_what op old a (Some j))
step_fits P f op old a j r x h =
    let p = if_some (assignable j) (value_kind j) r h in
    let q = assignable_parts j p.0 in
    subst (λ z. KindFits P f z (step_what op old a (Some j))) p.1 (step_fits_value P f op old a j x q.0 q.1)
