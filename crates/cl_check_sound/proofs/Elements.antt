-- The pieces of elements, of operators on one operand, of && and ||, ?: and commas have their types.
use Rattle.std.proofs.Common.{◌≡◌, ℕ, pos, ◌<◌, ◌*◌, ◌^◌, List, [], ◌∷◌, length, Some, Bool, true, false, ◌&&◌, refl}
use Rattle.std.proofs.Common.{sym, subst}
use Rattle.std.proofs.lemmas.Option.{none-some, same_Some}
use Rattle.std.proofs.lemmas.Bool.{false≢true}
use Rattle.wg_num.specs.declared.types.IntType.{IntType}
use Rattle.wg_num.specs.declared.types.IntType.TheVariants as types
use Rattle.wg_num.specs.declared.types.Place.{Place}
use Rattle.wg_num.specs.declared.types.Un.{Un}
use Rattle.wg_num.specs.declared.types.Bin.TheVariants as bins
use Rattle.cl_model.specs.declared.program.Space.{Space}
use Rattle.cl_model.specs.declared.program.Root.{Root}
use Rattle.cl_model.specs.Tree as tree
use Rattle.cl_model.specs.Tree.{Expression, Function, Program, Apply, single, pair, truth_of, decided}
use Rattle.cl_model.specs.Valid.{RootIs, HasType}
use Rattle.cl_meaning.specs.declared.types.Declared.{Declared}
use Rattle.cl_meaning.specs.Conversions.{promoted, common}
use Rattle.cl_meaning.specs.declared.kind.Each.TheVariants as each
use Rattle.cl_meaning.specs.declared.kind.Reach.{Reach}
use Rattle.cl_meaning.specs.declared.kind.Reach.TheVariants as reach
use Rattle.cl_meaning.specs.declared.kind.Kind.{Kind}
use Rattle.cl_meaning.specs.declared.kind.Kind.TheVariants as kinds
use Rattle.cl_meaning.specs.Kinds.{is_scalar, value_kind, comma_kind, cast_kind, element_kind, index_kind}
use Rattle.cl_meaning.specs.Kinds.{address_kind, operator_kind, logic_kind, choice_kind}
use Rattle.cl_meaning.specs.Typed.{What, value, target, offset, element, Piece}
use Rattle.cl_meaning.specs.Expressions.{literal, read, way, type_in, operand, logical, moved, scaled, index_made}
use Rattle.cl_meaning.specs.Expressions.{content_made, address_what}
use Rattle.cl_check_sound.specs.Fits.{KindFits}
use Rattle.cl_check_sound.proofs.Typing.{operand_typed, literal_typed, long_value, joined_typed, moved_typed}
use Rattle.cl_check_sound.proofs.Assigning.{if_some, both_true}

-- ---- elements

-- an element of an object can be loaded
pub element_fits : (P : Program) (f : Function) (site : ℕ) (s : Space) (t : IntType) (c : Bool) (r : Root)
    (i : Expression) → RootIs P f r s t → HasType P f i types.Long →
    KindFits P f (kinds.Number t (reach.Element s c r)) (target (element site t r i))
element_fits P f site s t c r i h x = ((types.Long ∷ [], (x, tt), (refl, (s, h), refl)), (site, i, refl, h, x))

pub object_fits : (P : Program) (f : Function) (site : ℕ) (s : Space) (t : IntType) (c : Bool) (r : Root)
    (i : Expression) → RootIs P f r s t → HasType P f i types.Long →
    KindFits P f (kinds.Number t (reach.Object s c)) (target (element site t r i))
object_fits P f site s t c r i h x = ((types.Long ∷ [], (x, tt), (refl, (s, h), refl)), (site, r, i, refl, h, x))

scaled_typed : (P : Program) (f : Function) (i : Expression) (n : ℕ) → n < 2 ^ 63 → HasType P f i types.Long →
    HasType P f (scaled i n) types.Long
scaled_typed P f i n h x = joined_typed P f bins.Mul types.Long types.Long i (literal (pos n) types.Long) (λ z. refl)
    x (literal_typed P f (pos n) types.Long (long_value n h))

pub index_fits : (P : Program) (f : Function) (place : Place) (sites : List Place) (a b : Piece) (j k r : Kind) →
    a.kind ≡ Some j → b.kind ≡ Some k → KindFits P f j a.what → KindFits P f k b.what → index_kind j k ≡ Some r →
    KindFits P f r (index_made place sites a b (Some j)).what
index_fits P f place sites a b (kinds.Pointer s t c q each.Element p) (kinds.Number u p') r d e x y h =
    subst (λ z. KindFits P f z (target (element (length sites) t q (moved (way a.what) (operand types.Long b)))))
    (same_Some _ _ h)
    (element_fits P f (length sites) s t c q (moved (way a.what) (operand types.Long b)) x.1
    (moved_typed P f a.what (operand types.Long b) x.0 (operand_typed P f types.Long u p' b e y.0)))
index_fits P f place sites a b (kinds.Pointer s t c q (each.Row n) p) (kinds.Number u p') r d e x y h =
    subst (λ z. KindFits P f z
    (offset (Some (moved (way a.what) (scaled (operand types.Long b) n))))) (same_Some _ _ h) (
      moved_typed P f a.what (scaled (operand types.Long b) n) x.0 (scaled_typed P f (operand types.Long b) n x.3
          (operand_typed P f types.Long u p' b e y.0)),
      x.1,
      tt,
      tt,
    )
index_fits P f place sites a b (kinds.Pointer s t c q (each.Plane m n) p) (kinds.Number u p') r d e x y h =
    subst (λ z. KindFits P f z (offset (Some (moved (way a.what) (scaled (operand types.Long b) (m * n))))))
    (same_Some _ _ h) (
      moved_typed P f a.what (scaled (operand types.Long b) (m * n)) x.0
          (scaled_typed P f (operand types.Long b) (m * n) x.3.1 (operand_typed P f types.Long u p' b e y.0)),
      x.1,
      tt,
      x.3.0,
    )
index_fits P f place sites a b (kinds.Number t p) (kinds.Number u q) r d e x y h = absurd (none-some r h)
index_fits P f place sites a b kinds.Nothing (kinds.Number u q) r d e x y h = absurd (none-some r h)
index_fits P f place sites a b j (kinds.Pointer s t c q i p) r d e x y h = absurd (none-some r h)
index_fits P f place sites a b j kinds.Nothing r d e x y h = absurd (none-some r h)

-- the offset of what a pointer's piece is
way_typed : (P : Program) (f : Function) (w : What) → HasType P f (read w) types.Long →
    HasType P f (read (offset (way w))) types.Long
way_typed P f (offset o) h = h
way_typed P f w h = h

pub content_fits : (P : Program) (f : Function) (place : Place) (sites : List Place) (a : Piece) (j r : Kind) →
    a.kind ≡ Some j → KindFits P f j a.what → element_kind j ≡ Some r →
    KindFits P f r (content_made place sites a (Some j)).what
content_fits P f place sites a (kinds.Pointer s t c q each.Element p) r d x h =
    subst (λ z. KindFits P f z (target (element (length sites) t q (read a.what)))) (same_Some _ _ h)
    (element_fits P f (length sites) s t c q (read a.what) x.1 x.0)
content_fits P f place sites a (kinds.Pointer s t c q (each.Row n) p) r d x h =
    subst (λ z. KindFits P f z (offset (way a.what))) (same_Some _ _ h) (way_typed P f a.what x.0, x.1, tt, tt)
content_fits P f place sites a (kinds.Pointer s t c q (each.Plane m n) p) r d x h =
    subst (λ z. KindFits P f z (offset (way a.what))) (same_Some _ _ h) (way_typed P f a.what x.0, x.1, tt, x.3.0)
content_fits P f place sites a j r d x h = absurd (none-some r h)

-- & of an indexed element
pub address_fits : (P : Program) (f : Function) (a : Piece) (j r : Kind) → KindFits P f j a.what →
    address_kind j ≡ Some r → KindFits P f r (address_what a.what)
address_fits P f a (kinds.Number t (reach.Element s c q)) r x h =
    subst (λ z. KindFits P f z (address_what a.what)) (same_Some _ _ h)
    (subst (λ w. KindFits P f (kinds.Pointer s t c q each.Element reach.Value) (address_what w)) (sym x.1.2) (
      x.1.4,
      x.1.3,
      tt,
      tt,
    ))
address_fits P f a j r x h = absurd (none-some r h)

-- ---- one operand

-- a number promoted
pub logical_typed : (P : Program) (f : Function) (t : IntType) (p : Reach) (a : Piece) →
    a.kind ≡ Some (kinds.Number t p) → HasType P f (read a.what) t → HasType P f (logical a) (promoted t)
logical_typed P f t p a e h = subst (λ k. HasType P f (operand (promoted (type_in k)) a) (promoted t)) (sym e)
    (operand_typed P f (promoted t) t p a e h)

pub operator_fits : (P : Program) (f : Function) (op : Un) (a : Piece) (j r : Kind) → a.kind ≡ Some j →
    KindFits P f j a.what → operator_kind op j ≡ Some r →
    KindFits P f r (value (Apply (tree.Unary op (promoted (type_in (Some j)))) (single (logical a))))
operator_fits P f op a (kinds.Number t p) r e x h =
    subst (λ z. KindFits P f z (value (Apply (tree.Unary op (promoted t)) (single (logical a))))) (same_Some _ _ h)
    ((promoted t ∷ [], (logical_typed P f t p a e x.0, tt), (refl, refl)), tt)
operator_fits P f op a j r e x h = absurd (none-some r h)

pub cast_fits : (P : Program) (f : Function) (d : Declared) (a : Piece) (j r : Kind) → a.kind ≡ Some j →
    KindFits P f j a.what → cast_kind (Some d) j ≡ Some r → KindFits P f r (value (operand d.of a))
cast_fits P f d a (kinds.Number t p) r e x h =
    subst (λ z. KindFits P f z (value (operand d.of a))) (same_Some _ _ h) (operand_typed P f d.of t p a e x.0, tt)
cast_fits P f d a j r e x h = absurd (none-some r h)

-- ---- && and ||, ?: and commas

pub and_fits : (P : Program) (f : Function) (site : ℕ) (a b : Piece) (j k r : Kind) → a.kind ≡ Some j →
    b.kind ≡ Some k → KindFits P f j a.what → KindFits P f k b.what → logic_kind j k ≡ Some r →
    KindFits P f r (value (tree.Choose site (logical a) (truth_of (logical b)) (decided false)))
and_fits P f site a b (kinds.Number t p) (kinds.Number u q) r d e x y h =
    subst (λ z. KindFits P f z (value (tree.Choose site (logical a) (truth_of (logical b)) (decided false))))
    (same_Some _ _ h) (
      (
        (promoted t, logical_typed P f t p a d x.0),
        (promoted u ∷ [], (logical_typed P f u q b e y.0, tt), refl),
        ([], tt, refl),
      ),
      tt,
    )
and_fits P f site a b j k r d e x y h = absurd (none-some r h)

pub or_fits : (P : Program) (f : Function) (site : ℕ) (a b : Piece) (j k r : Kind) → a.kind ≡ Some j →
    b.kind ≡ Some k → KindFits P f j a.what → KindFits P f k b.what → logic_kind j k ≡ Some r →
    KindFits P f r (value (tree.Choose site (logical a) (decided true) (truth_of (logical b))))
or_fits P f site a b (kinds.Number t p) (kinds.Number u q) r d e x y h =
    subst (λ z. KindFits P f z (value (tree.Choose site (logical a) (decided true) (truth_of (logical b)))))
    (same_Some _ _ h) (
      (
        (promoted t, logical_typed P f t p a d x.0),
        ([], tt, refl),
        (promoted u ∷ [], (logical_typed P f u q b e y.0, tt), refl),
      ),
      tt,
    )
or_fits P f site a b j k r d e x y h = absurd (none-some r h)

pub choice_fits : (P : Program) (f : Function) (site : ℕ) (c a b : Piece) (i j k r : Kind) → c.kind ≡ Some i →
    a.kind ≡ Some j → b.kind ≡ Some k → KindFits P f i c.what → KindFits P f j a.what → KindFits P f k b.what →
    choice_kind i j k ≡ Some r →
    KindFits P f r (value (tree.Choose site (read c.what) (operand (common (type_in (Some j)) (type_in (Some k))) a)
    (operand (common (type_in (Some j)) (type_in (Some k))) b)))
choice_fits P f site c a b (kinds.Number v o) (kinds.Number t p) (kinds.Number u q) r g d e z x y h =
    subst (λ m. KindFits P f m (value (tree.Choose site (read c.what) (operand (common t u) a)
    (operand (common t u) b)))) (same_Some _ _ h)
    (((v, z.0), operand_typed P f (common t u) t p a d x.0, operand_typed P f (common t u) u q b e y.0), tt)
choice_fits P f site c a b i j k r g d e z x y h = absurd (none-some r h)

-- a scalar has a value of some type
scalar_typed : (P : Program) (f : Function) (a : Piece) (j : Kind) → KindFits P f j a.what → is_scalar j ≡ true →
    (t : IntType) × HasType P f (read a.what) t
scalar_typed P f a (kinds.Number t p) x h = (t, x.0)
scalar_typed P f a (kinds.Pointer s t c q each.Element p) x h = (types.Long, x.0)
scalar_typed P f a j x h = absurd (false≢true h)

second_typed : (P : Program) (f : Function) (a b : Expression) (t u : IntType) → HasType P f a t → HasType P f b u →
    HasType P f (Apply tree.Second (pair a b)) u
second_typed P f a b t u x y = (t ∷ u ∷ [], (x, (y, tt)), refl)

second_fits : (P : Program) (f : Function) (a b : Piece) (k : Kind) (t : IntType) → HasType P f (read a.what) t →
    KindFits P f k b.what → is_scalar k ≡ true →
    KindFits P f (value_kind k) (value (Apply tree.Second (pair (read a.what) (read b.what))))
second_fits P f a b (kinds.Number u q) t x y h = (second_typed P f (read a.what) (read b.what) t u x y.0, tt)
second_fits P f a b (kinds.Pointer s u c r each.Element q) t x y h =
    (second_typed P f (read a.what) (read b.what) t types.Long x y.0, y.1, tt, tt)
second_fits P f a b k t x y h = absurd (false≢true h)

pub comma_fits : (P : Program) (f : Function) (a b : Piece) (j k r : Kind) → KindFits P f j a.what →
    KindFits P f k b.what → comma_kind j k ≡ Some r →
    KindFits P f r (value (Apply tree.Second (pair (read a.what) (read b.what))))
comma_fits P f a b j k r x y h =
    let p = if_some (is_scalar j && is_scalar k) (value_kind k) r h in
    let q = both_true (is_scalar j) (is_scalar k) p.0 in
    let s = scalar_typed P f a j x q.0 in
    subst (λ z. KindFits P f z (value (Apply tree.Second (pair (read a.what) (read b.what))))) p.1
    (second_fits P f a b k s.0 s.1 y q.1)
