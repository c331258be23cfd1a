-- New nodes are expressions, types and lines, where what stands in them is.
use Rattle.std.proofs.Common.{ℕ, ◌≤◌, ◌-◌, List, ◌++◌, Bool, true, false, if◌then◌else◌}
use Rattle.std.proofs.Common.{refl, inl, inr, ◌⊎◌}
use Rattle.std.specs.Prelude.{codes}
use Rattle.wg_num.specs.declared.types.IntType.{IntType}
use Rattle.wg_num.specs.declared.types.IntType.TheVariants as types
use Rattle.wg_num.specs.declared.types.Bin.{Bin}
use Rattle.wg_num.specs.declared.types.Bin.TheVariants as bins
use Rattle.wg_num.specs.declared.types.Un.{Un}
use Rattle.wg_num.specs.declared.types.Un.TheVariants as uns
use Rattle.wg_num.specs.Operators.{is_shift}
use Rattle.wg_num.specs.Wrap.{width_bits}
use Rattle.cl_model.specs.declared.program.Space.{Space}
use Rattle.cl_tree.specs.declared.tree.Form.TheVariants as forms
use Rattle.cl_tree.specs.Syntax.{Syntax, node}
use Rattle.cl_tree.specs.Nodes.{forest1}
use Rattle.cl_meaning.specs.Operators.{prefix_in, postfix_in, setting_in}
use Rattle.cl_meaning.specs.Conversions.{is_comparison}
use Rattle.cl_check_sound.specs.Shape.{IsType, IsExpression, IsList, IsDeclarator, IsDeclaration, IsStatement}
use Rattle.cl_short_vec.specs.declared.nodes.Span.{Span}
use Rattle.cl_short_vec.specs.declared.types.Vector.{Vector}
use Rattle.cl_short_vec.specs.Nodes.{long_at, int_at, paren_at, typed_at, spaced_at, cast_at, joined_at}
use Rattle.cl_short_vec.specs.Nodes.{signed_at, amount_at, component_joined, element_at, scaled, further}
use Rattle.cl_short_vec.specs.Nodes.{statement_at, declared_at, span_of}
use Rattle.cl_short_vec_correct.proofs.Words.{typed_word, joined_word, long_word, bits_word}

pub typed_is : (of : IntType) (s : Span) → IsType (typed_at of s)
typed_is of s = typed_word false of

pub spaced_is : (space : Space) (constant : Bool) (of : IntType) (s : Span) → IsType (spaced_at space constant of s)
spaced_is space constant of s = typed_word constant of

pub cast_is : (of : IntType) (s : Span) (t : Syntax) → IsExpression t → IsExpression (cast_at of s t)
cast_is of s t h = (typed_is of s, h)

pub joined_is : (op : Bin) (s : Span) (a b : Syntax) → IsExpression a → IsExpression b →
    IsExpression (joined_at op s a b)
joined_is bins.Mul s a b h k = (joined_word bins.Mul, h, k)
joined_is bins.Div s a b h k = (joined_word bins.Div, h, k)
joined_is bins.Rem s a b h k = (joined_word bins.Rem, h, k)
joined_is bins.Add s a b h k = (joined_word bins.Add, h, k)
joined_is bins.Sub s a b h k = (joined_word bins.Sub, h, k)
joined_is bins.Shl s a b h k = (joined_word bins.Shl, h, k)
joined_is bins.Shr s a b h k = (joined_word bins.Shr, h, k)
joined_is bins.And s a b h k = (joined_word bins.And, h, k)
joined_is bins.Xor s a b h k = (joined_word bins.Xor, h, k)
joined_is bins.Or s a b h k = (joined_word bins.Or, h, k)
joined_is bins.Eq s a b h k = (joined_word bins.Eq, h, k)
joined_is bins.Ne s a b h k = (joined_word bins.Ne, h, k)
joined_is bins.Lt s a b h k = (joined_word bins.Lt, h, k)
joined_is bins.Le s a b h k = (joined_word bins.Le, h, k)
joined_is bins.Gt s a b h k = (joined_word bins.Gt, h, k)
joined_is bins.Ge s a b h k = (joined_word bins.Ge, h, k)

pub signed_is : (op : Un) (s : Span) (a : Syntax) → IsExpression a → IsExpression (signed_at op s a)
unfolding prefix_in
signed_is uns.Plus s a h = h
signed_is uns.Minus s a h = h
signed_is uns.Flip s a h = h
signed_is uns.Not s a h = h

amount_is : (of : IntType) (s : Span) (b : Syntax) → IsExpression b → IsExpression (amount_at of s b)
amount_is of s b h = joined_is bins.And s b (int_at (width_bits of - 1) s) h (bits_word of)

pub component_is : (op : Bin) (of : IntType) (s : Span) (a b : Syntax) → IsExpression a → IsExpression b →
    IsExpression (component_joined op of s a b)
component_is op of s a b h k = by (is_comparison op) (is_shift op)
  where
    by : (c d : Bool) → IsExpression (if c then cast_at of s (signed_at uns.Minus s (paren_at s (joined_at op s a b)))
        else (if d then cast_at of s (joined_at op s a (amount_at of s b)) else cast_at of s (joined_at op s a b)))
    by true d = cast_is of s (signed_at uns.Minus s (paren_at s (joined_at op s a b)))
        (signed_is uns.Minus s (paren_at s (joined_at op s a b)) (joined_is op s a b h k))
    by false true = cast_is of s (joined_at op s a (amount_at of s b))
        (joined_is op s a (amount_at of s b) h (amount_is of s b k))
    by false false = cast_is of s (joined_at op s a b) (joined_is op s a b h k)

pub element_is : (s : Span) (p i : Syntax) → IsExpression p → IsExpression i → IsExpression (element_at s p i)
unfolding postfix_in
element_is s p i h k = (refl, h, k)

pub scaled_is : (v : Vector) (i : Syntax) → v.count ≤ 16 → IsExpression i → IsExpression (scaled v i)
scaled_is v i c h = joined_is bins.Mul (span_of i) (cast_at types.Long (span_of i) i) (long_at v.count (span_of i))
    (cast_is types.Long (span_of i) i h) (long_word v.count c)

pub further_is : (c : ℕ) (i : Syntax) → c ≤ 16 → IsExpression i → IsExpression (further c i)
further_is c i b h = joined_is bins.Add (span_of i) i (long_at c (span_of i)) h (long_word c b)

-- ---- lines

pub statement_is : (s : Span) (target value : Syntax) → IsExpression target → IsExpression value →
    IsStatement (statement_at s target value)
unfolding setting_in
statement_is s target value h k = (refl, h, k)

-- an expression, or a list, as an initialiser
pub initial_is : (w : List ℕ) (f l : ℕ) (x : Syntax) → IsExpression x ⊎ IsList x →
    IsDeclarator (node forms.DeclaratorNode w f l (forest1 x))
initial_is w f l (node forms.StarNode w' f' l' parts) (inl h) = absurd h
initial_is w f l (node forms.StarNode w' f' l' parts) (inr h) = absurd h
initial_is w f l (node form w' f' l' parts) h = h

pub declared_is : (s : Span) (type : Syntax) (name : List ℕ) (x : Syntax) → IsType type → IsExpression x →
    IsDeclaration (declared_at s type name (forest1 x))
declared_is s type name x h k = (h, (initial_is (name ++ codes " =") s.first s.last x (inl k), tt))
