-- The pieces of expressions have their types.
use Rattle.std.proofs.Common.{◌≡◌, ℕ, ℤ, pos, ◌<◌, ◌^◌, [], ◌∷◌, None, Some, Bool, true, false, refl, sym, subst}
use Rattle.std.proofs.Common.{arith, if◌then◌else◌}
use Rattle.std.proofs.lemmas.Option.{none-some, same_Some}
use Rattle.std.proofs.lemmas.Bool.{false≢true}
use Rattle.wg_num.specs.declared.types.IntType.{IntType}
use Rattle.wg_num.specs.declared.types.IntType.TheVariants as types
use Rattle.wg_num.specs.declared.types.Bin.{Bin}
use Rattle.wg_num.specs.declared.types.Bin.TheVariants as bins
use Rattle.std.proofs.lemmas.Int.{ints}
use Rattle.wg_num.specs.Wrap.{IsValue, half, modulus}
use Rattle.wg_num.specs.Operators.{is_shift}
use Rattle.wg_num.specs.Types.{same_type}
use Rattle.wg_num.proofs.TypeLaws.{same_type_is}
use Rattle.cl_model.specs.Tree as tree
use Rattle.cl_model.specs.Tree.{Expression, Function, Program, Apply, single}
use Rattle.cl_model.specs.Valid.{HasType, RightFits, binary_type}
use Rattle.cl_meaning.specs.Conversions.{promoted, common, operand_type, right_type}
use Rattle.cl_meaning.specs.declared.kind.Each.TheVariants as each
use Rattle.cl_meaning.specs.declared.kind.Reach.{Reach}
use Rattle.cl_meaning.specs.declared.kind.Kind.{Kind}
use Rattle.cl_meaning.specs.declared.kind.Kind.TheVariants as kinds
use Rattle.cl_meaning.specs.Kinds.{binary_kind}
use Rattle.cl_meaning.specs.Typed.{What, offset, Piece}
use Rattle.cl_meaning.specs.Expressions.{literal, zero_offset, read, way, type_in, convert, operand, joined_by, moved}
use Rattle.cl_meaning.specs.Expressions.{moved_by, binary_what}
use Rattle.cl_check_sound.specs.Fits.{KindFits}

-- ---- single steps

pub long_value : (n : ℕ) → n < 2 ^ 63 → IsValue types.Long (pos n)
unfolding half modulus
long_value n h = record { low = omega (arith, ints); high = omega (arith, ints, h) }

pub literal_typed : (P : Program) (f : Function) (v : ℤ) (t : IntType) → IsValue t v → HasType P f (literal v t) t
literal_typed P f v t h = ([], tt, (h, refl))

pub zero_typed : (P : Program) (f : Function) → HasType P f zero_offset types.Long
zero_typed P f = literal_typed P f (pos 0) types.Long (long_value 0 (omega arith))

convert_by : (P : Program) (f : Function) (b : Bool) (to from : IntType) (e : Expression) → (b ≡ true → to ≡ from) →
    HasType P f e from → HasType P f (if b then e else Apply (tree.Convert to) (single e)) to
convert_by P f true to from e same h = subst (λ t. HasType P f e t) (sym (same refl)) h
convert_by P f false to from e same h = (from ∷ [], (h, tt), refl)

-- a conversion, where one is written
pub convert_typed : (P : Program) (f : Function) (to from : IntType) (e : Expression) → HasType P f e from →
    HasType P f (convert to from e) to
convert_typed P f to from e h = convert_by P f (same_type to from) to from e (same_type_is to from) h

pub right_fits : (op : Bin) (t u : IntType) → RightFits op (operand_type op t u) (right_type op t u)
right_fits op t u = by (is_shift op)
  where
    by : (b : Bool) → b ≡ false → (if b then promoted u else common t u) ≡ (if b then promoted t else common t u)
    by true h = absurd (false≢true (sym h))
    by false h = refl

-- an operator on two operands
pub joined_typed : (P : Program) (f : Function) (op : Bin) (of right : IntType) (a b : Expression) →
    RightFits op of right → HasType P f a of → HasType P f b right →
    HasType P f (joined_by op of a b) (binary_type op of)
joined_typed P f op of right a b r x y = (of ∷ right ∷ [], (x, (y, tt)), (refl, r, refl))

-- ---- pieces

-- a number, converted
pub operand_typed : (P : Program) (f : Function) (to t : IntType) (p : Reach) (a : Piece) →
    a.kind ≡ Some (kinds.Number t p) → HasType P f (read a.what) t → HasType P f (operand to a) to
operand_typed P f to t p a e h =
    subst (λ k. HasType P f (convert to (type_in k) (read a.what)) to) (sym e) (convert_typed P f to t (read a.what) h)

-- an index behind an offset, and an offset behind an index
pub moved_typed : (P : Program) (f : Function) (w : What) (i : Expression) → HasType P f (read w) types.Long →
    HasType P f i types.Long → HasType P f (moved (way w) i) types.Long
moved_typed P f (offset None) i h x = x
moved_typed P f (offset (Some e)) i h x = joined_typed P f bins.Add types.Long types.Long e i (λ s. refl) h x
moved_typed P f w i h x = joined_typed P f bins.Add types.Long types.Long (read w) i (λ s. refl) h x

pub moved_by_typed : (P : Program) (f : Function) (i : Expression) (w : What) → HasType P f i types.Long →
    HasType P f (read w) types.Long → HasType P f (moved_by i (way w)) types.Long
moved_by_typed P f i (offset None) x h = x
moved_by_typed P f i (offset (Some e)) x h = joined_typed P f bins.Add types.Long types.Long i e (λ s. refl) x h
moved_by_typed P f i w x h = joined_typed P f bins.Add types.Long types.Long i (read w) (λ s. refl) x h

-- ---- operators with two operands

-- two numbers
numbers_typed : (P : Program) (f : Function) (op : Bin) (a b : Piece) (t u : IntType) (p q : Reach) →
    a.kind ≡ Some (kinds.Number t p) → b.kind ≡ Some (kinds.Number u q) → HasType P f (read a.what) t →
    HasType P f (read b.what) u →
    HasType P f (joined_by op (operand_type op t u) (operand (operand_type op t u) a) (operand (right_type op t u) b))
    (binary_type op (operand_type op t u))
numbers_typed P f op a b t u p q d e x y =
    joined_typed P f op (operand_type op t u) (right_type op t u) (operand (operand_type op t u) a)
    (operand (right_type op t u) b) (right_fits op t u)
    (operand_typed P f (operand_type op t u) t p a d x) (operand_typed P f (right_type op t u) u q b e y)

pub binary_fits : (P : Program) (f : Function) (op : Bin) (a b : Piece) (j k : Kind) (r : Kind) → a.kind ≡ Some j →
    b.kind ≡ Some k → KindFits P f j a.what → KindFits P f k b.what → binary_kind op j k ≡ Some r →
    KindFits P f r (binary_what op a b (Some j) (Some k))
binary_fits P f op a b (kinds.Number t p) (kinds.Number u q) r d e x y h =
    subst (λ z. KindFits P f z (binary_what op a b (Some (kinds.Number t p)) (Some (kinds.Number u q))))
    (same_Some _ _ h) (numbers_typed P f op a b t u p q d e x.0 y.0, tt)
binary_fits P f bins.Add a b (kinds.Pointer s e' c r' each.Element p) (kinds.Number u q) r d e x y h =
    subst (λ z. KindFits P f z (offset (Some (moved (way a.what) (operand types.Long b))))) (same_Some _ _ h)
    (moved_typed P f a.what (operand types.Long b) x.0 (operand_typed P f types.Long u q b e y.0), x.1, tt, tt)
binary_fits P f bins.Add a b (kinds.Number t p) (kinds.Pointer s e' c r' each.Element q) r d e x y h =
    subst (λ z. KindFits P f z (offset (Some (moved_by (operand types.Long a) (way b.what))))) (same_Some _ _ h)
    (moved_by_typed P f (operand types.Long a) b.what (operand_typed P f types.Long t p a d x.0) y.0, y.1, tt, tt)
binary_fits P f bins.Sub a b (kinds.Pointer s e' c r' each.Element p) (kinds.Number u q) r d e x y h =
    subst (λ z. KindFits P f z (offset (Some (joined_by bins.Sub types.Long (read a.what) (operand types.Long b)))))
    (same_Some _ _ h) (
      joined_typed P f bins.Sub types.Long types.Long (read a.what) (operand types.Long b) (λ z. refl) x.0
          (operand_typed P f types.Long u q b e y.0),
      x.1,
      tt,
      tt,
    )
binary_fits P f op a b j k r d e x y h = absurd (none-some r h)
