-- Where an element of vectors stands: its index counts as many numbers as a vector has components.
use Rattle.std.proofs.Common.{◌≡◌, ◌≤◌, pos, Bool, false, List, [], ◌∷◌, ◌++◌, Option, None, Some, refl, sym, ap}
use Rattle.std.proofs.Common.{◌∙◌, subst, arith}
use Rattle.std.specs.Prelude.{codes, decimal}
use Rattle.wg_num.specs.declared.types.IntType.{IntType}
use Rattle.wg_num.specs.declared.types.IntType.TheVariants as types
use Rattle.wg_num.specs.declared.types.Bin.TheVariants as bins
use Rattle.wg_num.specs.declared.types.Place.{Place}
use Rattle.cl_model.specs.declared.program.Root.{Root}
use Rattle.cl_model.specs.declared.program.Space.{Space}
use Rattle.cl_model.specs.Tree.{Expression}
use Rattle.cl_tree.specs.declared.tree.Form.TheVariants as forms
use Rattle.cl_tree.specs.Syntax.{Syntax}
use Rattle.cl_tree.specs.Nodes.{forest1}
use Rattle.cl_check_sound.proofs.Growth.{expression_leaves}
use Rattle.cl_meaning.specs.declared.operators.Prefix.TheVariants as prefixes
use Rattle.cl_meaning.specs.declared.types.Declared.{Declared}
use Rattle.cl_meaning.specs.declared.kind.Each.TheVariants as each
use Rattle.cl_meaning.specs.declared.kind.Reach.{Reach}
use Rattle.cl_meaning.specs.declared.kind.Kind.{Kind}
use Rattle.cl_meaning.specs.declared.kind.Kind.TheVariants as kinds
use Rattle.cl_meaning.specs.Declarations.{form_of, word_of}
use Rattle.cl_meaning.specs.Operators.{binary_in, prefix_in}
use Rattle.cl_meaning.specs.Environment.{Env, place_of}
use Rattle.cl_meaning.specs.Kinds.{kind_step, on_one, on_both, binary_kind, cast_kind, index_kind, address_kind, number}
use Rattle.cl_meaning.specs.Visible.{inside, later, restored, left, closed, behind, behind_parts, kind_of, kinds_of}
use Rattle.cl_meaning.specs.Typed.{Piece, Made, value}
use Rattle.cl_meaning.specs.Expressions.{read, way, moved, operand, convert, type_in, joined_by, literal, binary_what}
use Rattle.cl_meaning.specs.Expressions.{address_what, cast_made, index_made}
use Rattle.cl_meaning.specs.Meant.{make, meant, parts_meant}
use Rattle.cl_short_vec.specs.declared.nodes.Span.{Span}
use Rattle.cl_short_vec.specs.declared.types.Vector.{Vector}
use Rattle.cl_short_vec.specs.declared.kinds.Kind as vector_kinds
use Rattle.cl_short_vec.specs.declared.kinds.Kind.TheVariants.{Pointer}
use Rattle.cl_short_vec.specs.Types.{selection_in}
use Rattle.cl_short_vec.specs.Marks.{Mark, mark, marking, unmarked, tree_at, kind_at}
use Rattle.cl_short_vec.specs.Faults.{components_of}
use Rattle.cl_short_vec.specs.Nodes.{span_of, at, cast_at, joined_at, long_at, paren_at, typed_at, element_at, scaled}
use Rattle.cl_short_vec.specs.Scalar.{scalar, component_at, one_selected, chosen_or, one_by, prefixed, two_by}
use Rattle.cl_short_vec_correct.specs.Doing.{IsPointing, IsElement}
use Rattle.cl_short_vec_correct.specs.Law.{NumbersScaled, OffsetsScaled, ContentsStand}
use Rattle.cl_short_vec_correct.proofs.LineWords.{declared_with, typed_declared, long_literal, index_postfix}
use Rattle.cl_short_vec_correct.proofs.Pieces.{closed_same, meant_kind, made_as, number_meant, number_behind}
use Rattle.cl_short_vec_correct.proofs.Pieces.{index_meant, indexed}
use Rattle.cl_short_vec_correct.proofs.Trees.{paren_kind, paren_leaves, paren_what, type_leaves, cast_kinds}
use Rattle.cl_short_vec_correct.proofs.Trees.{cast_leaves}
use Rattle.cl_short_vec_correct.proofs.Trees.{cast_what}

-- ---- nodes

mul_kind : (env : Env) (s : Span) (a b : Syntax) → kind_of env (joined_at bins.Mul s a b) ≡
    on_both (kind_of env a) (kind_of (behind env a) b) (binary_kind bins.Mul)
unfolding kind_of kinds_of kind_step inside later binary_in
mul_kind env s a b = refl

mul_leaves : (env : Env) (s : Span) (a b : Syntax) →
    behind env (joined_at bins.Mul s a b) ≡ closed env (behind (behind env a) b)
unfolding behind behind_parts left restored inside later
mul_leaves env s a b = refl

mul_what : (env : Env) (sites : List Place) (s : Span) (a b : Syntax) →
    (meant env sites (joined_at bins.Mul s a b)).piece.what ≡
    binary_what bins.Mul (meant env sites a).piece (meant (behind env a) (meant env sites a).sites b).piece
    (meant env sites a).piece.kind (meant (behind env a) (meant env sites a).sites b).piece.kind
unfolding meant parts_meant make inside later binary_in
mul_what env sites s a b = refl

addressed_kind : (env : Env) (s : Span) (t : Syntax) →
    kind_of env (at forms.UnaryNode (codes "&") s (forest1 t)) ≡ on_one (kind_of env t) address_kind
unfolding kind_of kinds_of kind_step inside prefix_in
addressed_kind env s t = refl

addressed_what : (env : Env) (sites : List Place) (s : Span) (t : Syntax) →
    (meant env sites (at forms.UnaryNode (codes "&") s (forest1 t))).piece.what ≡
    address_what (meant env sites t).piece.what
unfolding meant parts_meant make inside prefix_in
addressed_what env sites s t = refl

-- ---- an index as a `long`

abbrev long : Declared
long = declared_with None false types.Long

abbrev cast_to_long : Option Kind → Option Kind
cast_to_long k = on_one k (cast_kind (Some long))

long_kind : (env : Env) (s : Span) (t : Syntax) →
    kind_of env (cast_at types.Long s t) ≡ cast_to_long (kind_of env t)
long_kind env s t =
    cast_kinds env types.Long s t ∙
    ap (λ d. on_one (kind_of (behind env (typed_at types.Long s)) (paren_at s t)) (cast_kind d))
    (typed_declared types.Long s) ∙
    ap (λ z. on_one (kind_of z (paren_at s t)) (cast_kind (Some long))) (type_leaves env types.Long s) ∙
    ap cast_to_long (paren_kind env s t)

long_leaves : (env : Env) (s : Span) (t : Syntax) → behind env t ≡ env → behind env (cast_at types.Long s t) ≡ env
long_leaves env s t h =
    cast_leaves env types.Long s t ∙
    ap (λ z. closed env (behind z (paren_at s t))) (type_leaves env types.Long s) ∙
    ap (closed env) (paren_leaves env s t ∙ ap (closed env) h ∙ closed_same env) ∙ closed_same env

long_what : (env : Env) (sites : List Place) (s : Span) (t : Syntax) →
    (meant env sites (cast_at types.Long s t)).piece.what ≡ value (operand types.Long (meant env sites t).piece)
long_what env sites s t =
    let at_type = behind env (typed_at types.Long s) in
    let p = (meant env sites (paren_at s t)).piece in
    cast_what env sites types.Long s t ∙
    ap (λ d. (cast_made (meant at_type sites (paren_at s t)).sites d
    ((meant env sites (typed_at types.Long s)).piece ∷ ((meant at_type sites (paren_at s t)).piece ∷ []))).what)
    (typed_declared types.Long s) ∙
    ap (λ z. value (operand types.Long (meant z sites (paren_at s t)).piece)) (type_leaves env types.Long s) ∙
    ap (λ k. value (convert types.Long (type_in k) (read p.what)))
    (sym (meant_kind env sites (paren_at s t)) ∙ paren_kind env s t ∙ meant_kind env sites t) ∙
    ap (λ w. value (convert types.Long (type_in (meant env sites t).piece.kind) (read w))) (paren_what env sites s t)

-- ---- times the number of components

abbrev times_long : Option Kind → Option Kind
times_long k = on_both k (Some (number types.Long)) (binary_kind bins.Mul)

module _ (v : Vector) (small : v.count ≤ 16) (env : Env) (i : Syntax) where
  abbrev s : Span
  s = span_of i

  abbrev cast : Syntax
  cast = cast_at types.Long s i

  count_meant : (at : Env) (sites : List Place) → meant at sites (long_at v.count s) ≡
      made_as (Some (number types.Long)) (value (literal (pos v.count) types.Long)) sites
  count_meant at sites = number_meant at sites (decimal v.count ++ codes "L") s.first s.last types.Long v.count
      (long_literal v.count small)

  scaled_kind : kind_of env (scaled v i) ≡ times_long (cast_to_long (kind_of env i))
  scaled_kind =
      mul_kind env s cast (long_at v.count s) ∙
      ap (λ k. on_both k (kind_of (behind env cast) (long_at v.count s)) (binary_kind bins.Mul)) (long_kind env s i) ∙
      ap (λ k. on_both (cast_to_long (kind_of env i)) k (binary_kind bins.Mul))
      (meant_kind (behind env cast) [] (long_at v.count s) ∙
      ap (λ z. z.piece.kind) (count_meant (behind env cast) []))

  scaled_leaves : behind env i ≡ env → behind env (scaled v i) ≡ env
  scaled_leaves h =
      mul_leaves env s cast (long_at v.count s) ∙
      ap (λ z. closed env (behind z (long_at v.count s))) (long_leaves env s i h) ∙
      ap (closed env) (number_behind env (decimal v.count ++ codes "L") s.first s.last) ∙ closed_same env

  abbrev times : List Place → Expression
  times sites = joined_by bins.Mul types.Long (operand types.Long (meant env sites i).piece)
      (literal (pos v.count) types.Long)

  scaled_what : (sites : List Place) (t : IntType) (q : Reach) → kind_of env i ≡ Some (kinds.Number t q) →
      (meant env sites (scaled v i)).piece.what ≡ value (times sites)
  scaled_what sites t q h =
      let c = (meant env sites cast).piece in
      let n : Piece =
      record { kind = Some (number types.Long); what = value (literal (pos v.count) types.Long) } in
      mul_what env sites s cast (long_at v.count s) ∙
      ap (λ z. binary_what bins.Mul c z.piece c.kind z.piece.kind)
      (count_meant (behind env cast) (meant env sites cast).sites) ∙
      ap (λ k. binary_what bins.Mul (record { kind = k; what = c.what }) n k (Some (number types.Long)))
      (sym (meant_kind env sites cast) ∙ long_kind env s i ∙ ap cast_to_long h) ∙
      ap (λ w. binary_what bins.Mul (record { kind = Some (number types.Long); what = w }) n
      (Some (number types.Long)) (Some (number types.Long))) (long_what env sites s i)

-- ---- what is indexed, where the element has an address

-- a pointer to numbers is indexed, by a number
record Indexes (ka kx : Option Kind) : Type 0 where
  pub space : Space
  pub of : IntType
  pub constant : Bool
  pub root : Root
  pub reached : Reach
  pub pointer : ka ≡ Some (kinds.Pointer space of constant root each.Element reached)
  pub type : IntType
  pub reach : Reach
  pub index : kx ≡ Some (kinds.Number type reach)

indexes : (r : Root) (ka kx : Option Kind) → IsPointing r (on_one (on_both ka kx index_kind) address_kind) →
    Indexes ka kx
indexes r None kx h = absurd h
indexes r (Some a) None h = absurd h
indexes r (Some (kinds.Pointer s e c root each.Element p)) (Some (kinds.Number u q)) h = record {
  space = s;
  of = e;
  constant = c;
  root = root;
  reached = p;
  pointer = refl;
  type = u;
  reach = q;
  index = refl;
}
indexes r (Some (kinds.Pointer s e c root (each.Row n) p)) (Some (kinds.Number u q)) h = absurd h
indexes r (Some (kinds.Pointer s e c root (each.Plane m n) p)) (Some (kinds.Number u q)) h = absurd h
indexes r (Some (kinds.Number t p)) (Some (kinds.Number u q)) h = absurd h
indexes r (Some kinds.Nothing) (Some (kinds.Number u q)) h = absurd h
indexes r (Some a) (Some (kinds.Pointer s e c root i p)) h = absurd h
indexes r (Some a) (Some kinds.Nothing) h = absurd h

is_number : (k : Option Kind) (t : IntType) (q : Reach) → times_long (cast_to_long k) ≡ Some (kinds.Number t q) →
    (u : IntType) × (p : Reach) × (k ≡ Some (kinds.Number u p))
is_number None t q h = let never : ⊥ = cc in absurd never
is_number (Some (kinds.Number u p)) t q h = (u, p, refl)
is_number (Some (kinds.Pointer s e c r i p)) t q h = let never : ⊥ = cc in absurd never
is_number (Some kinds.Nothing) t q h = let never : ⊥ = cc in absurd never

-- ---- the law

scalar_element : (t : Syntax) (k : vector_kinds.Kind) (a b : Mark) (space : Space) (constant : Bool) (v : Vector) →
    form_of t ≡ forms.PostfixNode → kind_at a ≡ Pointer space constant v →
    scalar (mark t k (marking a (marking b unmarked))) ≡ element_at (span_of t) (scalar a) (scaled v (scalar b))
unfolding scalar
scalar_element t k a b space constant v f p =
    ap (λ z. two_by z (kind_at a) (kind_at b) t (scalar a) (scalar b)) f ∙
    ap (λ z. two_by forms.PostfixNode z (kind_at b) t (scalar a) (scalar b)) p

scalar_content : (t : Syntax) (k : vector_kinds.Kind) (a : Mark) (space : Space) (constant : Bool) (v : Vector) →
    form_of t ≡ forms.UnaryNode → prefix_in (word_of t) ≡ Some prefixes.Content → kind_at a ≡ Pointer space constant v →
    scalar (mark t k (marking a unmarked)) ≡
    element_at (span_of t) (paren_at (span_of t) (scalar a)) (long_at 0 (span_of t))
unfolding scalar
scalar_content t k a space constant v f o p =
    ap (λ z. chosen_or (one_selected z (selection_in (word_of t)) (components_of (mark t k (marking a unmarked))))
    (λ c. component_at c (span_of t) a) (one_by z (kind_at a) t (scalar a))) f ∙
    ap (λ z. prefixed z (kind_at a) t (scalar a)) o ∙
    ap (λ z. prefixed (Some prefixes.Content) z t (scalar a)) p

abbrev addressed : Span → (pointer index : Syntax) → Syntax
addressed s p x = at forms.UnaryNode (codes "&") s (forest1 (element_at s p x))

module _ (env : Env) (s : Span) (p x : Syntax) (hp : behind env p ≡ env) (hx : behind env x ≡ env)
    (sites : List Place) where
  abbrev pointed : Made
  pointed = meant env sites p

  abbrev index : Made
  index = meant env pointed.sites x

  is_indexed : meant env sites (element_at s p x) ≡ indexed env s.first pointed index
  is_indexed = index_meant env sites (codes "[ ]") s.first s.last p x hp hx index_postfix

  is_pointer : (r : Root) → IsPointing r (meant env sites (addressed s p x)).piece.kind →
      Indexes pointed.piece.kind index.piece.kind
  is_pointer r h = indexes r pointed.piece.kind index.piece.kind (subst (IsPointing r)
      (sym (meant_kind env sites (addressed s p x)) ∙ addressed_kind env s (element_at s p x) ∙
      ap (λ z. on_one z address_kind) (meant_kind env sites (element_at s p x) ∙
      ap (λ z. z.piece.kind) is_indexed)) h)

  offset_is : (r : Root) → IsPointing r (meant env sites (addressed s p x)).piece.kind →
      read (meant env sites (addressed s p x)).piece.what ≡
      moved (way pointed.piece.what) (operand types.Long index.piece)
  offset_is r h =
      let d = is_pointer r h in
      ap read (addressed_what env sites s (element_at s p x) ∙ ap (λ z. address_what z.piece.what) is_indexed ∙
      ap (λ z. address_what (index_made (place_of env s.first) index.sites pointed.piece index.piece z).what)
      d.pointer)

module _ (env : Env) (s : Span) (p i : Syntax) (v : Vector) (small : v.count ≤ 16) (hp : behind env p ≡ env)
    (hi : behind env i ≡ env) (sites : List Place) (r : Root) where
  index_is : IsPointing r (meant env sites (addressed s p (scaled v i))).piece.kind →
      read (meant env sites (addressed s p (scaled v i))).piece.what ≡
      moved (way (meant env sites p).piece.what) (times v small env i (meant env sites p).sites)
  index_is h =
      let x = scaled v i in
      let hx = scaled_leaves v small env i hi in
      let a = meant env sites p in
      let b = meant env a.sites x in
      let d = is_pointer env s p x hp hx sites r h in
      let n = is_number (kind_of env i) d.type d.reach
      (sym (scaled_kind v small env i) ∙ meant_kind env a.sites x ∙ d.index) in
      let k : b.piece.kind ≡ Some (number types.Long) =
      sym (meant_kind env a.sites x) ∙ scaled_kind v small env i ∙ ap (λ z. times_long (cast_to_long z)) n.2 in
      offset_is env s p x hp hx sites r h ∙
      ap (λ z. moved (way a.piece.what) (convert types.Long (type_in z) (read b.piece.what))) k ∙
      ap (λ w. moved (way a.piece.what) (read w)) (scaled_what v small env i a.sites n.0 n.1 n.2)

content_is : (env : Env) (s : Span) (p : Syntax) → behind env p ≡ env → (sites : List Place) (r : Root) →
    IsPointing r (meant env sites (addressed s (paren_at s p) (long_at 0 s))).piece.kind →
    read (meant env sites (addressed s (paren_at s p) (long_at 0 s))).piece.what ≡
    moved (way (meant env sites p).piece.what) (literal (pos 0) types.Long)
content_is env s p hp sites r h =
    let q = paren_at s p in
    let a = meant env sites q in
    let w = decimal 0 ++ codes "L" in
    offset_is env s q (long_at 0 s) (paren_leaves env s p ∙ ap (closed env) hp ∙ closed_same env)
    (number_behind env w s.first s.last) sites r h ∙
    ap (λ z. moved (way a.piece.what) (operand types.Long z.piece))
    (number_meant env a.sites w s.first s.last types.Long 0 (long_literal 0 (omega arith))) ∙
    ap (λ z. moved (way z) (literal (pos 0) types.Long)) (paren_what env sites s p)

-- what an element is, in the unit without vectors
element_as : (env : Env) (m : Mark) (r : Root) (e : Expression) (t : Syntax) → scalar m ≡ t → IsElement env m r e →
    (sites : List Place) ×
    IsPointing r (meant env sites (at forms.UnaryNode (codes "&") (span_of (tree_at m)) (forest1 t))).piece.kind ×
    (e ≡ read (meant env sites (at forms.UnaryNode (codes "&") (span_of (tree_at m)) (forest1 t))).piece.what)
element_as env m r e t q (sites, points, is) =
    let same = ap (λ z. at forms.UnaryNode (codes "&") (span_of (tree_at m)) (forest1 z)) q in (
      sites,
      subst (λ z. IsPointing r (meant env sites z).piece.kind) same points,
      is ∙ ap (λ z. read (meant env sites z).piece.what) same,
    )

pub numbers_scaled : NumbersScaled
numbers_scaled env sites v i t reached small h = scaled_what v small env i sites t reached h

pub offsets_scaled : OffsetsScaled
offsets_scaled env t k a b space constant v r e f p small ia ib h =
    let s = span_of t in
    let x = element_as env (mark t k (marking a (marking b unmarked))) r e
    (element_at s (scalar a) (scaled v (scalar b))) (scalar_element t k a b space constant v f p) h in (
      x.0,
      x.2 ∙ index_is env s (scalar a) (scalar b) v small (expression_leaves env (scalar a) ia)
          (expression_leaves env (scalar b) ib) x.0 r x.1,
    )

pub contents_stand : ContentsStand
contents_stand env t k a space constant v r e f o p ia h =
    let s = span_of t in
    let x = element_as env (mark t k (marking a unmarked)) r e
    (element_at s (paren_at s (scalar a)) (long_at 0 s)) (scalar_content t k a space constant v f o p) h in (
      x.0,
      x.2 ∙ content_is env s (scalar a) (expression_leaves env (scalar a) ia) x.0 r x.1,
    )
