-- Pointers to vectors are there pointers to numbers, and places of vectors numbers.
use Rattle.std.proofs.Common.{◌≡◌, [], ◌∷◌, Option, None, Some, Bool, false, refl, sym, ap, ◌∙◌}
use Rattle.std.proofs.lemmas.Bool.{false≢true}
use Rattle.std.proofs.lemmas.Option.{none-some}
use Rattle.wg_num.specs.declared.types.IntType.{IntType}
use Rattle.wg_num.specs.declared.types.IntType.TheVariants as types
use Rattle.wg_num.specs.declared.types.Bin.{Bin}
use Rattle.wg_num.specs.declared.types.Bin.TheVariants as bins
use Rattle.cl_model.specs.declared.program.Space.{Space}
use Rattle.cl_model.specs.declared.program.Root.{Root}
use Rattle.cl_meaning.specs.declared.kind.Each.TheVariants as each
use Rattle.cl_meaning.specs.declared.kind.Reach.{Reach}
use Rattle.cl_meaning.specs.declared.kind.Reach.TheVariants as reach
use Rattle.cl_meaning.specs.declared.kind.Kind.{Kind}
use Rattle.cl_meaning.specs.declared.kind.Kind.TheVariants as kinds
use Rattle.cl_meaning.specs.Kinds.{on_one, number, pair_kind, binary_kind, value_kind, address_kind}
use Rattle.cl_short_vec.specs.declared.types.Vector.{Vector}
use Rattle.cl_short_vec.specs.declared.kinds.Reach.TheVariants.{Value, Variable, Element}
use Rattle.cl_short_vec.specs.declared.kinds.Kind as vectors
use Rattle.cl_short_vec.specs.declared.kinds.Kind.TheVariants.{Vectors, Pointer, Other}
use Rattle.cl_short_vec.specs.Kinds.{is_vector, pointer_alone, address_of, pointer_moved, joined_kind}
use Rattle.cl_short_vec_faults.specs.Law.{KindAs}

the_kind : Kind → Option Kind → Kind
the_kind k None = k
the_kind k (Some j) = j

pub some_same : (j k : Kind) → Some j ≡ Some k → j ≡ k
unfolding the_kind
some_same j k e = ap (the_kind j) e

-- ---- pointers

pub record IsPointer (s : Space) (c : Bool) (v : Vector) (k : Kind) : Type 0 where
  pub root : Root
  pub reach' : Reach
  pub pointer : k ≡ kinds.Pointer s v.of c root each.Element reach'

pub pointer_is : (s : Space) (c : Bool) (v : Vector) (k : Kind) → KindAs (Pointer s c v) (Some k) → IsPointer s c v k
pointer_is s c v k h = record { root = h.0; reach' = h.1; pointer = some_same k _ h.2 }

pub value_as : (j : vectors.Kind) (k : Kind) → KindAs j (Some k) → KindAs (pointer_alone j) (Some (value_kind k))
value_as (Vectors v r) k h = tt
value_as (Other b) k h = tt
value_as (Pointer s c v) k h = (h.0, reach.Value, ap (λ z. on_one z (λ x. Some (value_kind x))) h.2)

pub address_as : (j : vectors.Kind) (a k : Kind) → KindAs j (Some a) → address_kind a ≡ Some k →
    KindAs (address_of j) (Some k)
address_as (Vectors v (Element s c)) a k h e = (h.0, reach.Value, sym e ∙ ap (λ z. on_one z address_kind) h.1)
address_as (Vectors v Value) a k h e = tt
address_as (Vectors v Variable) a k h e = tt
address_as (Pointer s c v) a k h e = tt
address_as (Other b) a k h e = tt

-- ---- operators

-- what is added to a pointer or taken from it
pub record Offset (op : Bin) (s : Space) (e : IntType) (c : Bool) (r : Root) (q : Reach) (k j : Kind) : Type 0 where
  pub of : IntType
  pub reach' : Reach
  pub number' : k ≡ kinds.Number of reach'
  pub scaled : binary_kind op (kinds.Pointer s e c r each.Element q) (number types.Long) ≡ Some j
  pub moved : j ≡ kinds.Pointer s e c r each.Element reach.Value

pub behind_pointer : (op : Bin) (s : Space) (e : IntType) (c : Bool) (r : Root) (q : Reach) (k j : Kind) →
    binary_kind op (kinds.Pointer s e c r each.Element q) k ≡ Some j → Offset op s e c r q k j
behind_pointer bins.Add s e c r q (kinds.Number t p) j h =
    record { of = t; reach' = p; number' = refl; scaled = h; moved = sym (some_same _ j h) }
behind_pointer bins.Sub s e c r q (kinds.Number t p) j h =
    record { of = t; reach' = p; number' = refl; scaled = h; moved = sym (some_same _ j h) }
behind_pointer op s e c r q k j h = absurd (none-some j h)

pub record Before (op : Bin) (s : Space) (e : IntType) (c : Bool) (r : Root) (q : Reach) (k j : Kind) : Type 0 where
  pub of : IntType
  pub reach' : Reach
  pub number' : k ≡ kinds.Number of reach'
  pub scaled : binary_kind op (number types.Long) (kinds.Pointer s e c r each.Element q) ≡ Some j
  pub moved : j ≡ kinds.Pointer s e c r each.Element reach.Value

pub before_pointer : (op : Bin) (s : Space) (e : IntType) (c : Bool) (r : Root) (q : Reach) (k j : Kind) →
    binary_kind op k (kinds.Pointer s e c r each.Element q) ≡ Some j → Before op s e c r q k j
before_pointer bins.Add s e c r q (kinds.Number t p) j h =
    record { of = t; reach' = p; number' = refl; scaled = h; moved = sym (some_same _ j h) }
before_pointer bins.Add s e c r q (kinds.Pointer s' e' c' r' each.Element p) j h = absurd (none-some j h)
before_pointer bins.Add s e c r q (kinds.Pointer s' e' c' r' (each.Row n) p) j h = absurd (none-some j h)
before_pointer bins.Add s e c r q (kinds.Pointer s' e' c' r' (each.Plane m n) p) j h = absurd (none-some j h)
before_pointer bins.Add s e c r q kinds.Nothing j h = absurd (none-some j h)
before_pointer bins.Sub s e c r q (kinds.Pointer s' e' c' r' each.Element p) j h = absurd (none-some j h)
before_pointer bins.Sub s e c r q (kinds.Pointer s' e' c' r' (each.Row n) p) j h = absurd (none-some j h)
before_pointer bins.Sub s e c r q (kinds.Pointer s' e' c' r' (each.Plane m n) p) j h = absurd (none-some j h)
before_pointer bins.Sub s e c r q kinds.Nothing j h = absurd (none-some j h)
before_pointer bins.Sub s e c r q (kinds.Number t p) j h = absurd (none-some j h)
before_pointer op s e c r q (kinds.Pointer s' e' c' r' each.Element p) j h = absurd (none-some j h)
before_pointer op s e c r q (kinds.Pointer s' e' c' r' (each.Row n) p) j h = absurd (none-some j h)
before_pointer op s e c r q (kinds.Pointer s' e' c' r' (each.Plane m n) p) j h = absurd (none-some j h)
before_pointer op s e c r q kinds.Nothing j h = absurd (none-some j h)
before_pointer op s e c r q (kinds.Number t p) j h = absurd (none-some j h)

-- ---- operators on what is no vector

moved_as : (op : Bin) (j k : vectors.Kind) (a b i : Kind) → KindAs j (Some a) → KindAs k (Some b) →
    binary_kind op a b ≡ Some i → KindAs (pointer_moved op j k) (Some i)
moved_as bins.Add (Pointer s c v) (Other y) a b i h g e =
    let p = pointer_is s c v a h in
    let o = behind_pointer bins.Add s v.of c p.root p.reach' b i
    (ap (λ z. binary_kind bins.Add z b) (sym p.pointer) ∙ e) in
    (p.root, reach.Value, ap (λ z. Some z) o.moved)
moved_as bins.Add (Other y) (Pointer s c v) a b i h g e =
    let p = pointer_is s c v b g in
    let o = before_pointer bins.Add s v.of c p.root p.reach' a i
    (ap (λ z. binary_kind bins.Add a z) (sym p.pointer) ∙ e) in
    (p.root, reach.Value, ap (λ z. Some z) o.moved)
moved_as bins.Sub (Pointer s c v) (Other y) a b i h g e =
    let p = pointer_is s c v a h in
    let o = behind_pointer bins.Sub s v.of c p.root p.reach' b i
    (ap (λ z. binary_kind bins.Sub z b) (sym p.pointer) ∙ e) in
    (p.root, reach.Value, ap (λ z. Some z) o.moved)
moved_as op j k a b i h g e = tt

joined_op : (op : Bin) (j k : vectors.Kind) (a b i : Kind) → is_vector j ≡ false → is_vector k ≡ false →
    KindAs j (Some a) → KindAs k (Some b) → binary_kind op a b ≡ Some i → KindAs (joined_kind (Some op) j k) (Some i)
joined_op op (Vectors v r) k a b i u w h g e = absurd (false≢true (sym u))
joined_op op j (Vectors v r) a b i u w h g e = absurd (false≢true (sym w))
joined_op op (Pointer s c v) (Pointer s' c' v') a b i u w h g e =
    moved_as op (Pointer s c v) (Pointer s' c' v') a b i h g e
joined_op op (Pointer s c v) (Other y) a b i u w h g e = moved_as op (Pointer s c v) (Other y) a b i h g e
joined_op op (Other y) (Pointer s c v) a b i u w h g e = moved_as op (Other y) (Pointer s c v) a b i h g e
joined_op op (Other y) (Other z) a b i u w h g e = moved_as op (Other y) (Other z) a b i h g e

pub joined_as : (o : Option Bin) (j k : vectors.Kind) (a b i : Kind) → is_vector j ≡ false → is_vector k ≡ false →
    KindAs j (Some a) → KindAs k (Some b) →
    on_one o (λ op. pair_kind (binary_kind op) (Some a ∷ Some b ∷ [])) ≡ Some i →
    KindAs (joined_kind o j k) (Some i)
joined_as None j k a b i u w h g e = tt
joined_as (Some op) j k a b i u w h g e = joined_op op j k a b i u w h g e
