-- Trees that say nothing about vectors and declare nothing, and which new nodes are such.
use Rattle.std.proofs.Common.{◌≡◌, ℕ, ◌-◌, List, [], ◌∷◌, ◌++◌, Bool, true, false, ◌||◌}
use Rattle.std.proofs.Common.{if◌then◌else◌, refl, sym, ap, ◌∙◌}
use Rattle.std.proofs.lemmas.Bool.{false≢true}
use Rattle.std.specs.Prelude.{codes}
use Rattle.wg_num.specs.declared.types.IntType.{IntType}
use Rattle.wg_num.specs.declared.types.IntType.TheVariants as types
use Rattle.wg_num.specs.declared.types.Bin.{Bin}
use Rattle.wg_num.specs.declared.types.Bin.TheVariants as bins
use Rattle.wg_num.specs.declared.types.Un.{Un}
use Rattle.wg_num.specs.declared.types.Un.TheVariants as uns
use Rattle.wg_num.specs.Operators.{is_shift}
use Rattle.wg_num.specs.Wrap.{width_bits}
use Rattle.cl_model.specs.declared.program.Space.{Space}
use Rattle.cl_tree.specs.declared.tree.Form.{Form}
use Rattle.cl_tree.specs.declared.tree.Form.TheVariants as forms
use Rattle.cl_tree.specs.Syntax.{Syntax, node, Forest, none, more}
use Rattle.cl_tree.specs.Nodes.{forest1}
use Rattle.cl_meaning.specs.Conversions.{is_comparison}
use Rattle.cl_meaning.specs.Kinds.{is_some}
use Rattle.cl_short_vec.specs.declared.nodes.Span.{Span}
use Rattle.cl_short_vec.specs.declared.types.Vector.{Vector}
use Rattle.cl_short_vec.specs.Types.{vector_in}
use Rattle.cl_short_vec.specs.Plain.{is_pointed, is_about_vectors, has_vectors, have_vectors}
use Rattle.cl_short_vec.specs.Nodes.{variable_at, long_at, int_at, paren_at, constant_word, typed_at, spaced_at}
use Rattle.cl_short_vec.specs.Nodes.{space_word, cast_at, joined_at, signed_at}
use Rattle.cl_short_vec.specs.Nodes.{amount_at, component_joined, element_at, scaled, further, assigned_at}
use Rattle.cl_short_vec.specs.Nodes.{statement_at, at, span_of}
use Rattle.cl_short_vec_form.specs.Stored.{stored_by, stored, all_stored}

-- ---- what they are

abbrev declares : Form → Bool
declares forms.DeclareNode = true
declares form = false

abbrev mutual
  pub Calm : Syntax → Type 0
  Calm (node form w f l parts) =
      (is_about_vectors (node form w f l parts) ≡ false) × (declares form ≡ false) × AreCalm parts

  pub AreCalm : Forest → Type 0
  AreCalm none = Unit {0}
  AreCalm (more p ps) = Calm p × AreCalm ps

either : (a b : Bool) → a ≡ false → b ≡ false → a || b ≡ false
either false b h k = k
either true b h k = absurd (false≢true (sym h))

pub neither : (a b : Bool) → a || b ≡ false → (a ≡ false) × (b ≡ false)
neither true b h = absurd (false≢true (sym h))
neither false b h = (refl, h)

-- a node of that production, with these words and parts, has no vectors where its parts have none
pub node_plain : (form : Form) (w : List ℕ) (f l : ℕ) (ps : Forest) →
    is_about_vectors (node form w f l ps) ≡ false → have_vectors ps ≡ false → has_vectors (node form w f l ps) ≡ false
node_plain form w f l ps h k = either (is_about_vectors (node form w f l ps)) (have_vectors ps) h k

pub both_plain : (p : Syntax) (ps : Forest) → has_vectors p ≡ false → have_vectors ps ≡ false →
    have_vectors (more p ps) ≡ false
both_plain p ps h k = either (has_vectors p) (have_vectors ps) h k

mutual
  pub calm_plain : (t : Syntax) → Calm t → has_vectors t ≡ false
  calm_plain (node form w f l ps) h = node_plain form w f l ps h.0 (calm_parts_plain ps h.2)

  pub calm_parts_plain : (ps : Forest) → AreCalm ps → have_vectors ps ≡ false
  calm_parts_plain none h = refl
  calm_parts_plain (more p ps) h = both_plain p ps (calm_plain p h.0) (calm_parts_plain ps h.1)

stores_nothing : (form : Form) (ps : Forest) (inner : List (List ℕ)) → declares form ≡ false →
    stored_by form ps inner ≡ inner
stores_nothing forms.DeclareNode ps inner h = absurd (false≢true (sym h))
stores_nothing form ps inner h = refl

mutual
  unfolding stored all_stored

  pub calm_stored : (t : Syntax) → Calm t → stored t ≡ []
  calm_stored (node form w f l ps) h = stores_nothing form ps (all_stored ps) h.1 ∙ calm_parts_stored ps h.2

  pub calm_parts_stored : (ps : Forest) → AreCalm ps → all_stored ps ≡ []
  calm_parts_stored none h = refl
  calm_parts_stored (more p ps) h = ap (λ z. z ++ all_stored ps) (calm_stored p h.0) ∙ calm_parts_stored ps h.1

-- ---- nodes

-- a postfix node of no part, of two, and of more
pub no_selection : (w : List ℕ) (f l : ℕ) → is_about_vectors (node forms.PostfixNode w f l none) ≡ false
no_selection [] f l = refl
no_selection (b ∷ w) f l = refl

pub index_selects_nothing : (w : List ℕ) (f l : ℕ) (a b : Syntax) (ps : Forest) →
    is_about_vectors (node forms.PostfixNode w f l (more a (more b ps))) ≡ false
index_selects_nothing [] f l a b ps = refl
index_selects_nothing (c ∷ w) f l a b ps = refl

-- and one of one part, where it is no selection
pub step_selects_nothing : (w : List ℕ) (f l : ℕ) (a : Syntax) → is_pointed w ≡ false →
    is_about_vectors (node forms.PostfixNode w f l (more a none)) ≡ false
step_selects_nothing [] f l a h = refl
step_selects_nothing (b ∷ w) f l a h = h

pub constant_plain : (constant : Bool) (of : IntType) → is_some (vector_in (constant_word constant of)) ≡ false
unfolding vector_in
constant_plain true types.Bool = refl
constant_plain true types.Char = refl
constant_plain true types.Uchar = refl
constant_plain true types.Short = refl
constant_plain true types.Ushort = refl
constant_plain true types.Int = refl
constant_plain true types.Uint = refl
constant_plain true types.Long = refl
constant_plain true types.Ulong = refl
constant_plain false types.Bool = refl
constant_plain false types.Char = refl
constant_plain false types.Uchar = refl
constant_plain false types.Short = refl
constant_plain false types.Ushort = refl
constant_plain false types.Int = refl
constant_plain false types.Uint = refl
constant_plain false types.Long = refl
constant_plain false types.Ulong = refl

-- a type whose words name no vector
pub type_calm : (w : List ℕ) (f l : ℕ) (ps : Forest) → is_some (vector_in w) ≡ false → AreCalm ps →
    Calm (node forms.TypeNode w f l ps)
type_calm w f l ps h k = (either (is_some (vector_in w)) false h refl, refl, k)

pub typed_calm : (of : IntType) (s : Span) → Calm (typed_at of s)
typed_calm of s = type_calm (constant_word false of) s.first s.last none (constant_plain false of) tt

pub spaced_calm : (space : Space) (constant : Bool) (of : IntType) (s : Span) → Calm (spaced_at space constant of s)
spaced_calm space constant of s = type_calm (constant_word constant of) s.first s.last
    (forest1 (at forms.SpaceNode (space_word space) s none)) (constant_plain constant of) ((refl, refl, tt), tt)

pub long_calm : (n : ℕ) (s : Span) → Calm (long_at n s)
long_calm n s = (refl, refl, tt)

pub int_calm : (n : ℕ) (s : Span) → Calm (int_at n s)
int_calm n s = (refl, refl, tt)

pub variable_calm : (name : List ℕ) (s : Span) → Calm (variable_at name s)
variable_calm name s = (refl, refl, tt)

pub paren_calm : (s : Span) (t : Syntax) → Calm t → Calm (paren_at s t)
paren_calm s t h = (refl, refl, (h, tt))

pub cast_calm : (of : IntType) (s : Span) (t : Syntax) → Calm t → Calm (cast_at of s t)
cast_calm of s t h = (refl, refl, (typed_calm of s, (paren_calm s t h, tt)))

pub joined_calm : (op : Bin) (s : Span) (a b : Syntax) → Calm a → Calm b → Calm (joined_at op s a b)
joined_calm op s a b h k = by op
  where
    by : (op : Bin) → Calm (joined_at op s a b)
    by bins.Mul = (refl, refl, (h, (k, tt)))
    by bins.Div = (refl, refl, (h, (k, tt)))
    by bins.Rem = (refl, refl, (h, (k, tt)))
    by bins.Add = (refl, refl, (h, (k, tt)))
    by bins.Sub = (refl, refl, (h, (k, tt)))
    by bins.Shl = (refl, refl, (h, (k, tt)))
    by bins.Shr = (refl, refl, (h, (k, tt)))
    by bins.And = (refl, refl, (h, (k, tt)))
    by bins.Xor = (refl, refl, (h, (k, tt)))
    by bins.Or = (refl, refl, (h, (k, tt)))
    by bins.Eq = (refl, refl, (h, (k, tt)))
    by bins.Ne = (refl, refl, (h, (k, tt)))
    by bins.Lt = (refl, refl, (h, (k, tt)))
    by bins.Le = (refl, refl, (h, (k, tt)))
    by bins.Gt = (refl, refl, (h, (k, tt)))
    by bins.Ge = (refl, refl, (h, (k, tt)))

pub signed_calm : (op : Un) (s : Span) (a : Syntax) → Calm a → Calm (signed_at op s a)
signed_calm op s a h = (refl, refl, (h, tt))

amount_calm : (of : IntType) (s : Span) (b : Syntax) → Calm b → Calm (amount_at of s b)
amount_calm of s b h = paren_calm s (joined_at bins.And s b (int_at (width_bits of - 1) s))
    (joined_calm bins.And s b (int_at (width_bits of - 1) s) h (int_calm (width_bits of - 1) s))

pub component_calm : (op : Bin) (of : IntType) (s : Span) (a b : Syntax) → Calm a → Calm b →
    Calm (component_joined op of s a b)
component_calm op of s a b h k = by (is_comparison op) (is_shift op)
  where
    by : (c d : Bool) → Calm (if c then cast_at of s (signed_at uns.Minus s (paren_at s (joined_at op s a b)))
        else (if d then cast_at of s (joined_at op s a (amount_at of s b)) else cast_at of s (joined_at op s a b)))
    by true d = cast_calm of s (signed_at uns.Minus s (paren_at s (joined_at op s a b)))
        (signed_calm uns.Minus s (paren_at s (joined_at op s a b))
        (paren_calm s (joined_at op s a b) (joined_calm op s a b h k)))
    by false true = cast_calm of s (joined_at op s a (amount_at of s b))
        (joined_calm op s a (amount_at of s b) h (amount_calm of s b k))
    by false false = cast_calm of s (joined_at op s a b) (joined_calm op s a b h k)

pub element_calm : (s : Span) (p i : Syntax) → Calm p → Calm i → Calm (element_at s p i)
element_calm s p i h k = (refl, refl, (h, (k, tt)))

pub scaled_calm : (v : Vector) (i : Syntax) → Calm i → Calm (scaled v i)
scaled_calm v i h = joined_calm bins.Mul (span_of i) (cast_at types.Long (span_of i) i) (long_at v.count (span_of i))
    (cast_calm types.Long (span_of i) i h) (long_calm v.count (span_of i))

pub further_calm : (c : ℕ) (i : Syntax) → Calm i → Calm (further c i)
further_calm c i h = joined_calm bins.Add (span_of i) i (long_at c (span_of i)) h (long_calm c (span_of i))

pub assigned_calm : (w : List ℕ) (s : Span) (target value : Syntax) → Calm target → Calm value →
    Calm (assigned_at w s target value)
assigned_calm w s target value h k = (refl, refl, (h, (k, tt)))

pub statement_calm : (s : Span) (target value : Syntax) → Calm target → Calm value → Calm (statement_at s target value)
statement_calm s target value h k = (refl, refl, (assigned_calm (codes "=") s target value h k, tt))
