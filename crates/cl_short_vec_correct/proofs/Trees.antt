-- Trees without vectors that are numbers of a type, and leave what is visible as it is: what each is worth.
use Rattle.std.proofs.Common.{◌≡◌, ℕ, ℤ, pos, ◌-◌, List, [], ◌∷◌, Option, Some, refl, sym, ap, ◌∙◌}
use Rattle.std.proofs.Common.{subst, Bool, true, false, if◌then◌else◌}
use Rattle.std.proofs.lemmas.Bool.{false≢true}
use Rattle.std.specs.Prelude.{decimal, neg_ℤ}
use Rattle.wg_num.specs.declared.types.IntType.{IntType}
use Rattle.wg_num.specs.declared.types.IntType.TheVariants as types
use Rattle.wg_num.specs.declared.types.Place.{Place}
use Rattle.wg_num.specs.declared.types.Un.{Un}
use Rattle.wg_num.specs.declared.types.Un.TheVariants as uns
use Rattle.wg_num.specs.declared.types.Bin.{Bin}
use Rattle.wg_num.specs.declared.types.Bin.TheVariants as bins
use Rattle.wg_num.specs.Wrap.{wrap_of, is_bool, is_signed, width_bits, modulus, half, IsValue}
use Rattle.wg_num.specs.Operators.{unary_of, binary_of, is_shift}
use Rattle.wg_num.specs.Types.{same_type}
use Rattle.wg_num.proofs.WrapLaws.{IsValue-wrap, wrap_value}
use Rattle.wg_num.proofs.TypeLaws.{same_type_is}
use Rattle.cl_token.specs.NumberReading.{outcome_of, parts_of}
use Rattle.std.specs.Fmt.{digits}
use Rattle.cl_model.specs.Tree as tree
use Rattle.cl_model.specs.Tree.{Expression, Apply, single}
use Rattle.cl_tree.specs.Syntax.{Syntax}
use Rattle.cl_meaning.specs.OwnWords.{name_in}
use Rattle.cl_meaning.specs.Types.{declared_in}
use Rattle.cl_meaning.specs.Operators.{binary_in, prefix_in}
use Rattle.cl_meaning.specs.Literals.{literal_in}
use Rattle.cl_meaning.specs.Conversions.{promoted, unary_type, binary_type, operand_type, right_type, is_comparison}
use Rattle.cl_meaning.specs.Conversions.{common}
use Rattle.cl_meaning.specs.declared.kind.Reach.{Reach}
use Rattle.cl_meaning.specs.declared.kind.Reach.TheVariants as reach
use Rattle.cl_meaning.specs.declared.kind.Kind.{Kind}
use Rattle.cl_meaning.specs.declared.kind.Kind.TheVariants as kinds
use Rattle.cl_meaning.specs.declared.kind.Meaning.TheVariants as meanings
use Rattle.cl_meaning.specs.Environment.{Env, meaning_of}
use Rattle.cl_meaning.specs.Kinds.{kind_step, on_one, on_both, binary_kind}
use Rattle.cl_meaning.specs.Kinds.{operator_kind, cast_kind, number}
use Rattle.cl_meaning.specs.Visible.{inside, later, restored, left, closed, behind, behind_parts, kind_of, kinds_of}
use Rattle.cl_meaning.specs.Typed.{What, Piece, value}
use Rattle.cl_meaning.specs.Expressions.{read, convert, operand, type_in, binary_what, joined_by}
use Rattle.cl_meaning.specs.Expressions.{cast_made}
use Rattle.cl_meaning.specs.Meant.{make, meant, parts_meant}
use Rattle.cl_short_vec.specs.declared.nodes.Span.{Span}
use Rattle.cl_short_vec.specs.Nodes.{variable_at, int_at, paren_at}
use Rattle.cl_short_vec.specs.Nodes.{typed_at, cast_at, joined_at, signed_at, amount_at, component_joined}
use Rattle.cl_short_vec_correct.specs.Emits.{Known, IsIn, Own}
use Rattle.cl_short_vec_correct.specs.Emits as own
use Rattle.cl_short_vec_correct.specs.Values.{joined_value}
use Rattle.cl_short_vec_correct.proofs.LineWords.{typed_declared}
use Rattle.cl_short_vec_correct.proofs.Pieces.{closed_same, meant_kind, variable_behind, variable_meant, number_behind}
use Rattle.cl_short_vec_correct.proofs.Pieces.{number_meant}
use Rattle.cl_short_vec_correct.proofs.Numbers.{promoted_same, common_same, common_int, promoted_twice, joined_value_of}
use Rattle.cl_short_vec_correct.proofs.Numbers.{alone_value_of, alone_as_promoted, joined_as_promoted}
use Rattle.cl_short_vec_correct.proofs.Numbers.{shifted_as_promoted, compared_as_promoted, amount, mask_wraps}
use Rattle.cl_short_vec_correct.proofs.Numbers.{promoted_whole}

-- The tree is a number of that type and has this value, made of literals and helping variables alone.
pub record Typed (env : Env) (known : List Known) (t : Syntax) (of : IntType) (v : ℤ) : Type 0 where
  pub reached : Reach
  pub kind : kind_of env t ≡ Some (kinds.Number of reached)
  pub leaves : behind env t ≡ env
  pub fits : IsValue of v
  pub worth : (sites : List Place) → Own known (read (meant env sites t).piece.what) v

pub worth_is : {env : Env} {known : List Known} {t : Syntax} {of : IntType} {v w : ℤ} → v ≡ w →
    Typed env known t of v → Typed env known t of w
worth_is {env} {known} {t} {of} e h = subst (Typed env known t of) e h

pub type_is : {env : Env} {known : List Known} {t : Syntax} {of to : IntType} {v : ℤ} → of ≡ to →
    Typed env known t of v → Typed env known t to v
type_is {env} {known} {t} {v = v} e h = subst (λ of. Typed env known t of v) e h

-- the same where the same is visible
pub seen_from : {env at : Env} {known : List Known} {t : Syntax} {of : IntType} {v : ℤ} → at ≡ env →
    Typed env known t of v → Typed at known t of v
seen_from {known = known} {t} {of} {v} e h = subst (λ at. Typed at known t of v) (sym e) h

-- ---- conversions

-- a value as one of another type
converted : (known : List Known) (to from : IntType) (e : Expression) (v : ℤ) → IsValue from v → Own known e v →
    Own known (convert to from e) (wrap_of to v)
converted known to from e v h o = by (same_type to from) refl
  where
    by : (b : Bool) → same_type to from ≡ b →
        Own known (if b then e else Apply (tree.Convert to) (single e)) (wrap_of to v)
    by true s =
        subst (Own known e) (sym (wrap_value to v (subst (λ t. IsValue t v) (sym (same_type_is to from s)) h))) o
    by false s = own.convert to e v o

-- an operand as one of another type
pub as_operand : (env : Env) (known : List Known) (t : Syntax) (of to : IntType) (v : ℤ) (sites : List Place) →
    Typed env known t of v → Own known (operand to (meant env sites t).piece) (wrap_of to v)
as_operand env known t of to v sites h =
    subst (λ k. Own known (convert to (type_in k) (read (meant env sites t).piece.what)) (wrap_of to v))
    (sym (sym (meant_kind env sites t) ∙ h.kind))
    (converted known to of (read (meant env sites t).piece.what) v h.fits (h.worth sites))

-- ---- leaves

-- a helping variable
pub variable_typed : (env : Env) (known : List Known) (name : List ℕ) (s : Span) (of : IntType) (v : ℤ) (y : ℕ) →
    env.flags ≡ false → name_in name ≡ name → meaning_of env name ≡ Some (meanings.Scalar of false y) →
    IsIn known y v → IsValue of v → Typed env known (variable_at name s) of v
variable_typed env known name s of v y e n h i f =
    let is = λ (sites : List Place). variable_meant env sites name s.first s.last (meanings.Scalar of false y) e
    (ap (meaning_of env) n ∙ h) in
    record {
      reached = reach.Variable false;
      kind = meant_kind env [] (variable_at name s) ∙ ap (λ z. z.piece.kind) (is []);
      leaves = variable_behind env name s.first s.last;
      fits = f;
      worth = λ sites. subst (λ z. Own known (read z) v) (sym (ap (λ z. z.piece.what) (is sites)))
          (own.variable y v i);
    }

mask_read : (of : IntType) → literal_in (decimal (width_bits of - 1)) ≡ Some (types.Int, width_bits of - 1)
unfolding literal_in outcome_of parts_of digits modulus half
mask_read types.Bool = refl
mask_read types.Char = refl
mask_read types.Uchar = refl
mask_read types.Short = refl
mask_read types.Ushort = refl
mask_read types.Int = refl
mask_read types.Uint = refl
mask_read types.Long = refl
mask_read types.Ulong = refl

-- the mask of an amount
mask_typed : (env : Env) (known : List Known) (of : IntType) (s : Span) →
    Typed env known (int_at (width_bits of - 1) s) types.Int (pos (width_bits of - 1))
mask_typed env known of s =
    let n = width_bits of - 1 in
    let is = λ (sites : List Place). number_meant env sites (decimal n) s.first s.last types.Int n (mask_read of) in
    record {
      reached = reach.Value;
      kind = meant_kind env [] (int_at n s) ∙ ap (λ z. z.piece.kind) (is []);
      leaves = number_behind env (decimal n) s.first s.last;
      fits = subst (IsValue types.Int) (mask_wraps types.Int of refl) (IsValue-wrap types.Int (pos n));
      worth = λ sites. subst (λ z. Own known (read z) (pos n)) (sym (ap (λ z. z.piece.what) (is sites)))
          (own.literal (pos n) types.Int);
    }

-- ---- parentheses and casts

pub paren_kind : (env : Env) (s : Span) (t : Syntax) → kind_of env (paren_at s t) ≡ kind_of env t
unfolding kind_of kinds_of kind_step inside
paren_kind env s t = refl

pub paren_leaves : (env : Env) (s : Span) (t : Syntax) → behind env (paren_at s t) ≡ closed env (behind env t)
unfolding behind behind_parts left restored inside later
paren_leaves env s t = refl

pub paren_what : (env : Env) (sites : List Place) (s : Span) (t : Syntax) →
    (meant env sites (paren_at s t)).piece.what ≡ (meant env sites t).piece.what
unfolding meant parts_meant make inside
paren_what env sites s t = refl

pub paren_typed : (env : Env) (known : List Known) (s : Span) (t : Syntax) (of : IntType) (v : ℤ) →
    Typed env known t of v → Typed env known (paren_at s t) of v
paren_typed env known s t of v h = record {
  reached = h.reached;
  kind = paren_kind env s t ∙ h.kind;
  leaves = paren_leaves env s t ∙ ap (closed env) h.leaves ∙ closed_same env;
  fits = h.fits;
  worth = λ sites. subst (λ z. Own known (read z) v) (sym (paren_what env sites s t)) (h.worth sites);
}

pub type_leaves : (env : Env) (of : IntType) (s : Span) → behind env (typed_at of s) ≡ env
unfolding behind behind_parts left restored inside
type_leaves env of s = closed_same env

pub cast_kinds : (env : Env) (of : IntType) (s : Span) (t : Syntax) → kind_of env (cast_at of s t) ≡
    on_one (kind_of (behind env (typed_at of s)) (paren_at s t)) (cast_kind (declared_in (typed_at of s)))
unfolding kind_of kinds_of kind_step inside later
cast_kinds env of s t = refl

pub cast_leaves : (env : Env) (of : IntType) (s : Span) (t : Syntax) →
    behind env (cast_at of s t) ≡ closed env (behind (behind env (typed_at of s)) (paren_at s t))
unfolding behind behind_parts left restored inside later
cast_leaves env of s t = refl

pub cast_what : (env : Env) (sites : List Place) (of : IntType) (s : Span) (t : Syntax) →
    (meant env sites (cast_at of s t)).piece.what ≡
    (cast_made (meant (behind env (typed_at of s)) sites (paren_at s t)).sites (declared_in (typed_at of s))
    ((meant env sites (typed_at of s)).piece ∷
    ((meant (behind env (typed_at of s)) sites (paren_at s t)).piece ∷ []))).what
unfolding meant parts_meant make inside later
cast_what env sites of s t = refl

pub cast_typed : (env : Env) (known : List Known) (of : IntType) (s : Span) (t : Syntax) (from : IntType) (v : ℤ) →
    Typed env known t from v → Typed env known (cast_at of s t) of (wrap_of of v)
cast_typed env known of s t from v h =
    let p : Typed (behind env (typed_at of s)) known (paren_at s t) from v =
    seen_from (type_leaves env of s) (paren_typed env known s t from v h) in record {
      reached = reach.Value;
      kind = cast_kinds env of s t ∙ ap (λ z. on_one z (cast_kind (declared_in (typed_at of s)))) p.kind ∙
          ap (λ z. cast_kind z (kinds.Number from p.reached)) (typed_declared of s);
      leaves = cast_leaves env of s t ∙ ap (closed env) (p.leaves ∙ type_leaves env of s) ∙ closed_same env;
      fits = IsValue-wrap of v;
      worth = λ sites. subst (λ z. Own known (read z) (wrap_of of v)) (sym (cast_what env sites of s t ∙
          ap (λ z. (cast_made (meant (behind env (typed_at of s)) sites (paren_at s t)).sites z
          ((meant env sites (typed_at of s)).piece ∷
          ((meant (behind env (typed_at of s)) sites (paren_at s t)).piece ∷ []))).what) (typed_declared of s)))
          (as_operand (behind env (typed_at of s)) known (paren_at s t) from of v sites p);
    }

-- ---- operators

abbrev signed_what : Un → Piece → Option Kind → What
signed_what op p k =
    value (Apply (tree.Unary op (promoted (type_in k)))
    (single (convert (promoted (type_in k)) (type_in k) (read p.what))))

-- what an operator in front of a tree gives
record Signs (op : Un) : Type 0 where
  kinds_are : (env : Env) (s : Span) (a : Syntax) →
      kind_of env (signed_at op s a) ≡ on_one (kind_of env a) (operator_kind op)
  leaves : (env : Env) (s : Span) (a : Syntax) → behind env (signed_at op s a) ≡ closed env (behind env a)
  what : (env : Env) (sites : List Place) (s : Span) (a : Syntax) →
      (meant env sites (signed_at op s a)).piece.what ≡
      signed_what op (meant env sites a).piece (meant env sites a).piece.kind

signs : (op : Un) → Signs op
unfolding kind_of kinds_of kind_step behind behind_parts meant parts_meant make left restored inside later prefix_in
signs uns.Plus =
    record { kinds_are = λ env s a. refl; leaves = λ env s a. refl; what = λ env sites s a. refl }
signs uns.Minus =
    record { kinds_are = λ env s a. refl; leaves = λ env s a. refl; what = λ env sites s a. refl }
signs uns.Flip =
    record { kinds_are = λ env s a. refl; leaves = λ env s a. refl; what = λ env sites s a. refl }
signs uns.Not =
    record { kinds_are = λ env s a. refl; leaves = λ env s a. refl; what = λ env sites s a. refl }

pub signed_typed : (env : Env) (known : List Known) (op : Un) (s : Span) (a : Syntax) (of : IntType) (v : ℤ) →
    is_bool of ≡ false → Typed env known a of v →
    Typed env known (signed_at op s a) (unary_type op (promoted of)) (unary_of op (promoted of) v)
signed_typed env known op s a of v e h = record {
  reached = reach.Value;
  kind = (signs op).kinds_are env s a ∙ ap (λ z. on_one z (operator_kind op)) h.kind;
  leaves = (signs op).leaves env s a ∙ ap (closed env) h.leaves ∙ closed_same env;
  fits = alone_value_of op (promoted of) v;
  worth = λ sites. subst (λ z. Own known (read z) (unary_of op (promoted of) v))
      (sym ((signs op).what env sites s a ∙
      ap (signed_what op (meant env sites a).piece) (sym (meant_kind env sites a) ∙ h.kind)))
      (own.unary op (promoted of) (convert (promoted of) of (read (meant env sites a).piece.what)) v
      (subst (Own known (convert (promoted of) of (read (meant env sites a).piece.what)))
      (promoted_same of v e h.fits)
      (converted known (promoted of) of (read (meant env sites a).piece.what) v h.fits (h.worth sites))));
}

-- what an operator between two trees gives
record Joins (op : Bin) : Type 0 where
  kinds_are : (env : Env) (s : Span) (a b : Syntax) → kind_of env (joined_at op s a b) ≡
      on_both (kind_of env a) (kind_of (behind env a) b) (binary_kind op)
  leaves : (env : Env) (s : Span) (a b : Syntax) →
      behind env (joined_at op s a b) ≡ closed env (behind (behind env a) b)
  what : (env : Env) (sites : List Place) (s : Span) (a b : Syntax) →
      (meant env sites (joined_at op s a b)).piece.what ≡
      binary_what op (meant env sites a).piece (meant (behind env a) (meant env sites a).sites b).piece
      (meant env sites a).piece.kind (meant (behind env a) (meant env sites a).sites b).piece.kind

joins : (op : Bin) → Joins op
unfolding kind_of kinds_of kind_step behind behind_parts meant parts_meant make left restored inside later binary_in
joins bins.Add =
    record { kinds_are = λ env s a b. refl; leaves = λ env s a b. refl; what = λ env sites s a b. refl }
joins bins.Sub =
    record { kinds_are = λ env s a b. refl; leaves = λ env s a b. refl; what = λ env sites s a b. refl }
joins bins.Mul =
    record { kinds_are = λ env s a b. refl; leaves = λ env s a b. refl; what = λ env sites s a b. refl }
joins bins.Div =
    record { kinds_are = λ env s a b. refl; leaves = λ env s a b. refl; what = λ env sites s a b. refl }
joins bins.Rem =
    record { kinds_are = λ env s a b. refl; leaves = λ env s a b. refl; what = λ env sites s a b. refl }
joins bins.Shl =
    record { kinds_are = λ env s a b. refl; leaves = λ env s a b. refl; what = λ env sites s a b. refl }
joins bins.Shr =
    record { kinds_are = λ env s a b. refl; leaves = λ env s a b. refl; what = λ env sites s a b. refl }
joins bins.And =
    record { kinds_are = λ env s a b. refl; leaves = λ env s a b. refl; what = λ env sites s a b. refl }
joins bins.Or =
    record { kinds_are = λ env s a b. refl; leaves = λ env s a b. refl; what = λ env sites s a b. refl }
joins bins.Xor =
    record { kinds_are = λ env s a b. refl; leaves = λ env s a b. refl; what = λ env sites s a b. refl }
joins bins.Eq =
    record { kinds_are = λ env s a b. refl; leaves = λ env s a b. refl; what = λ env sites s a b. refl }
joins bins.Ne =
    record { kinds_are = λ env s a b. refl; leaves = λ env s a b. refl; what = λ env sites s a b. refl }
joins bins.Lt =
    record { kinds_are = λ env s a b. refl; leaves = λ env s a b. refl; what = λ env sites s a b. refl }
joins bins.Le =
    record { kinds_are = λ env s a b. refl; leaves = λ env s a b. refl; what = λ env sites s a b. refl }
joins bins.Gt =
    record { kinds_are = λ env s a b. refl; leaves = λ env s a b. refl; what = λ env sites s a b. refl }
joins bins.Ge =
    record { kinds_are = λ env s a b. refl; leaves = λ env s a b. refl; what = λ env sites s a b. refl }

-- the types in which an operator computes, and to which it brings its operands
pub joined_typed : (env : Env) (known : List Known) (op : Bin) (s : Span) (a b : Syntax) (t u of right : IntType)
    (v w : ℤ) → operand_type op t u ≡ of → right_type op t u ≡ right → wrap_of of v ≡ v → wrap_of right w ≡ w →
    Typed env known a t v → Typed env known b u w →
    Typed env known (joined_at op s a b) (binary_type op of) (binary_of op of v w)
joined_typed env known op s a b t u of right v w eo er ev ew h k' =
    let k : Typed (behind env a) known b u w = seen_from h.leaves k' in
    let same : binary_of op (operand_type op t u) (wrap_of (operand_type op t u) v) (wrap_of (right_type op t u) w) ≡
    binary_of op of v w =
    ap (λ z. binary_of op z (wrap_of z v) (wrap_of (right_type op t u) w)) eo ∙
    ap (λ z. binary_of op of (wrap_of of v) (wrap_of z w)) er ∙
    ap (λ z. binary_of op of z (wrap_of right w)) ev ∙ ap (binary_of op of v) ew in
    record {
      reached = reach.Value;
      kind = (joins op).kinds_are env s a b ∙
          ap (λ z. on_both z (kind_of (behind env a) b) (binary_kind op)) h.kind ∙
          ap (λ z. on_both (Some (kinds.Number t h.reached)) z (binary_kind op)) k.kind ∙
          ap (λ z. Some (number (binary_type op z))) eo;
      leaves = (joins op).leaves env s a b ∙ ap (closed env) (k.leaves ∙ h.leaves) ∙ closed_same env;
      fits = joined_value_of op of v w;
      worth = λ sites.
          let p = (meant env sites a).piece in
          let q = (meant (behind env a) (meant env sites a).sites b).piece in
          subst (λ z. Own known (read z) (binary_of op of v w)) (sym ((joins op).what env sites s a b ∙
          ap (λ z. binary_what op p q z q.kind) (sym (meant_kind env sites a) ∙ h.kind) ∙
          ap (λ z. binary_what op p q (Some (kinds.Number t h.reached)) z)
          (sym (meant_kind (behind env a) (meant env sites a).sites b) ∙ k.kind)))
          (subst (Own known (joined_by op (operand_type op t u) (operand (operand_type op t u) p)
          (operand (right_type op t u) q))) same
          (own.binary op (operand_type op t u) (operand (operand_type op t u) p) (operand (right_type op t u) q)
          (wrap_of (operand_type op t u) v) (wrap_of (right_type op t u) w)
          (as_operand env known a t (operand_type op t u) v sites h)
          (as_operand (behind env a) known b u (right_type op t u) w (meant env sites a).sites k)));
    }

-- ---- operators on components

-- two of one type, where it is no shift
plain_typed : (env : Env) (known : List Known) (op : Bin) (s : Span) (a b : Syntax) (t : IntType) (v w : ℤ) →
    is_shift op ≡ false → is_bool t ≡ false → Typed env known a t v → Typed env known b t w →
    Typed env known (joined_at op s a b) (binary_type op (promoted t)) (binary_of op (promoted t) v w)
plain_typed env known op s a b t v w e n h k =
    let c : (x : IntType) → (if is_shift op then x else common t t) ≡ promoted t =
    λ x. ap (λ z. if z then x else common t t) e ∙ common_same t in
    joined_typed env known op s a b t t (promoted t) (promoted t) v w (c (promoted t)) (c (promoted t))
    (promoted_same t v n h.fits) (promoted_same t w n k.fits) h k

amount_typed : (env : Env) (known : List Known) (s : Span) (b : Syntax) (t : IntType) (w : ℤ) → is_bool t ≡ false →
    Typed env known b t w → Typed env known (amount_at t s b) (promoted t) (amount t w)
amount_typed env known s b t w n k =
    paren_typed env known s (joined_at bins.And s b (int_at (width_bits t - 1) s)) (promoted t) (amount t w)
    (joined_typed env known bins.And s b (int_at (width_bits t - 1) s) t types.Int (promoted t) (promoted t) w
    (pos (width_bits t - 1)) (common_int t) (common_int t) (promoted_same t w n k.fits)
    (mask_wraps (promoted t) t (promoted_whole t n)) k (mask_typed env known t s))

-- by a masked amount
shift_typed : (env : Env) (known : List Known) (op : Bin) (s : Span) (a b : Syntax) (t : IntType) (v w : ℤ) →
    is_shift op ≡ true → is_bool t ≡ false → Typed env known a t v → Typed env known b t w →
    Typed env known (joined_at op s a (amount_at t s b)) (binary_type op (promoted t))
    (binary_of op (promoted t) v (amount t w))
shift_typed env known op s a b t v w e n h k =
    let m = amount_typed env known s b t w n k in
    joined_typed env known op s a (amount_at t s b) t (promoted t) (promoted t) (promoted t) v (amount t w)
    (ap (λ z. if z then promoted t else common t (promoted t)) e)
    (ap (λ z. if z then promoted (promoted t) else common t (promoted t)) e ∙ promoted_twice t)
    (promoted_same t v n h.fits) (wrap_value (promoted t) (amount t w) m.fits) h m

no_shift : (op : Bin) → is_comparison op ≡ true → is_shift op ≡ false
no_shift bins.Shl e = absurd (false≢true e)
no_shift bins.Shr e = absurd (false≢true e)
no_shift _ e = refl

compares_int : (op : Bin) (t : IntType) → is_comparison op ≡ true → binary_type op t ≡ types.Int
compares_int bins.Eq t e = refl
compares_int bins.Ne t e = refl
compares_int bins.Lt t e = refl
compares_int bins.Le t e = refl
compares_int bins.Gt t e = refl
compares_int bins.Ge t e = refl
compares_int _ t e = absurd (false≢true e)

-- an operator on components of a type gives components of another type: a comparison of the signed one
abbrev pub GivesBy : (comparison : Bool) → (of to : IntType) → Type 0
GivesBy true of to = is_signed to ≡ true
GivesBy false of to = to ≡ of

abbrev pub Gives : Bin → (of to : IntType) → Type 0
Gives op of to = GivesBy (is_comparison op) of to

pub component_typed : (env : Env) (known : List Known) (op : Bin) (to : IntType) (s : Span) (a b : Syntax) (t : IntType)
    (v w : ℤ) → is_bool t ≡ false → Gives op t to → Typed env known a t v → Typed env known b t w →
    Typed env known (component_joined op to s a b) to (joined_value op t v w)
component_typed env known op to s a b t v w n g h k = by (is_comparison op) refl (is_shift op) refl g
  where
    by : (c : Bool) → is_comparison op ≡ c → (d : Bool) → is_shift op ≡ d → GivesBy c t to →
        Typed env known (if c then cast_at to s (signed_at uns.Minus s (paren_at s (joined_at op s a b))) else
        (if d then cast_at to s (joined_at op s a (amount_at to s b)) else cast_at to s (joined_at op s a b))) to
        (if c then neg_ℤ (binary_of op t v w) else binary_of op t v w)
    by true e d f j =
        let x = binary_of op (promoted t) v w in
        let p = joined_at op s a b in
        let q = type_is (compares_int op (promoted t) e) (plain_typed env known op s a b t v w (no_shift op e) n h k) in
        let r = signed_typed env known uns.Minus s (paren_at s p) types.Int x refl
        (paren_typed env known s p types.Int x q) in
        worth_is (compared_as_promoted op to t v w e j) (cast_typed env known to s
        (signed_at uns.Minus s (paren_at s p)) types.Int (unary_of uns.Minus types.Int x) r)
    by false e true f j =
        let x = binary_of op (promoted t) v (amount t w) in
        worth_is (ap (λ z. wrap_of z x) j ∙ shifted_as_promoted op t v w n f) (cast_typed env known to s
        (joined_at op s a (amount_at to s b)) (binary_type op (promoted t)) x
        (subst (λ z. Typed env known (joined_at op s a (amount_at z s b)) (binary_type op (promoted t)) x) (sym j)
        (shift_typed env known op s a b t v w f n h k)))
    by false e false f j =
        let x = binary_of op (promoted t) v w in
        worth_is (ap (λ z. wrap_of z x) j ∙ joined_as_promoted op t v w n f) (cast_typed env known to s
        (joined_at op s a b) (binary_type op (promoted t)) x (plain_typed env known op s a b t v w f n h k))

-- in front of a component
pub prefixed_typed : (env : Env) (known : List Known) (op : Un) (s : Span) (a : Syntax) (t : IntType) (v : ℤ) →
    is_bool t ≡ false → Typed env known a t v → Typed env known (cast_at t s (signed_at op s a)) t (unary_of op t v)
prefixed_typed env known op s a t v n h =
    let x = unary_of op (promoted t) v in
    worth_is (alone_as_promoted op t v n) (cast_typed env known t s (signed_at op s a) (unary_type op (promoted t)) x
    (signed_typed env known op s a t v n h))
