-- How deep barriers stand in new nodes: no deeper than in what stands in them.
use Rattle.std.proofs.Common.{ℕ, zero, suc, ◌≤◌, ◌-◌, max, List, ◌++◌, Bool, true, false, if◌then◌else◌}
use Rattle.std.proofs.Common.{arith}
use Rattle.std.specs.Prelude.{codes}
use Rattle.wg_num.specs.declared.types.IntType.{IntType}
use Rattle.wg_num.specs.declared.types.IntType.TheVariants as types
use Rattle.wg_num.specs.declared.types.Bin.{Bin}
use Rattle.wg_num.specs.declared.types.Bin.TheVariants as bins
use Rattle.wg_num.specs.declared.types.Un.{Un}
use Rattle.wg_num.specs.declared.types.Un.TheVariants as uns
use Rattle.wg_num.specs.Operators.{is_shift}
use Rattle.wg_num.specs.Wrap.{width_bits}
use Rattle.cl_model.specs.declared.program.Space.{Space}
use Rattle.cl_tree.specs.declared.tree.Form.{Form}
use Rattle.cl_tree.specs.declared.tree.Form.TheVariants as forms
use Rattle.cl_tree.specs.Syntax.{Syntax, node, Forest, none, more, joined}
use Rattle.cl_tree.specs.Nodes.{forest1, forest2, forest3}
use Rattle.cl_limits.specs.Heights.{is_branch, inside, own_height, height_of, height_of_all}
use Rattle.cl_meaning.specs.Conversions.{is_comparison}
use Rattle.cl_meaning.specs.Declarations.{form_of, word_of}
use Rattle.cl_short_vec.specs.declared.nodes.Span.{Span}
use Rattle.cl_short_vec.specs.declared.types.Vector.{Vector}
use Rattle.cl_short_vec.specs.Marks.{Mark, mark, Marks, unmarked, marking}
use Rattle.cl_short_vec.specs.Nodes.{long_at, int_at, paren_at, typed_at, spaced_at, cast_at, joined_at, with_parts}
use Rattle.cl_short_vec.specs.Nodes.{signed_at, amount_at, component_joined, element_at, scaled, further}
use Rattle.cl_short_vec.specs.Nodes.{statement_at, declared_at, span_of, assigned_at}

-- ---- numbers

pub inside_above : (b : Bool) (n : ℕ) → n ≤ inside b n
inside_above true zero = omega arith
inside_above true (suc n) = omega arith
inside_above false n = omega arith

pub inside_grows : (b : Bool) (n m : ℕ) → n ≤ m → inside b n ≤ inside b m
inside_grows true zero m e = omega arith
inside_grows true (suc n) zero e = absurd (omega arith)
inside_grows true (suc n) (suc m) e = omega arith
inside_grows false n m e = e

pub through : (a b c : ℕ) → a ≤ b → b ≤ c → a ≤ c
through a b c p q = omega arith

pub both : (a b h : ℕ) → a ≤ h → b ≤ h → max a b ≤ h
both a b h p q = omega arith

pub front : (a b : ℕ) → a ≤ max a b
front a b = omega arith

pub behind : (a b : ℕ) → b ≤ max a b
behind a b = omega arith

pub each : (a b c d : ℕ) → a ≤ c → b ≤ d → max a b ≤ max c d
each a b c d p q = omega arith

pub same : (a : ℕ) → a ≤ a
same a = omega arith

-- ---- marks

-- a node of that production whose parts have that height together
abbrev pub node_height : (List ℕ → ℕ) → Form → List ℕ → ℕ → ℕ
node_height g form w n = inside (is_branch form) (max (own_height g form w) n)

abbrev mutual
  pub mark_height : (List ℕ → ℕ) → Mark → ℕ
  mark_height g (mark t k parts) = node_height g (form_of t) (word_of t) (marks_height g parts)

  pub marks_height : (List ℕ → ℕ) → Marks → ℕ
  marks_height g unmarked = 0
  marks_height g (marking m ms) = max (mark_height g m) (marks_height g ms)

-- a node is at least as high as its parts together, and as its own call
pub parts_below : (g : List ℕ → ℕ) (form : Form) (w : List ℕ) (n : ℕ) → n ≤ node_height g form w n
parts_below g form w n =
    through n (max (own_height g form w) n) (node_height g form w n) (behind (own_height g form w) n)
    (inside_above (is_branch form) (max (own_height g form w) n))

pub own_below : (g : List ℕ → ℕ) (form : Form) (w : List ℕ) (n : ℕ) → own_height g form w ≤ node_height g form w n
own_below g form w n =
    through (own_height g form w) (max (own_height g form w) n) (node_height g form w n)
    (front (own_height g form w) n) (inside_above (is_branch form) (max (own_height g form w) n))

-- the node with lower parts
pub with_low : (g : List ℕ → ℕ) (t : Syntax) (ps : Forest) (n : ℕ) → height_of_all g ps ≤ n →
    height_of g (with_parts t ps) ≤ node_height g (form_of t) (word_of t) n
with_low g (node form w f l qs) ps n e =
    inside_grows (is_branch form) (max (own_height g form w) (height_of_all g ps)) (max (own_height g form w) n)
    (each (own_height g form w) (height_of_all g ps) (own_height g form w) n (same (own_height g form w)) e)

-- ---- new nodes

module _ (g : List ℕ → ℕ) (h : ℕ) where
  pub none_low : height_of_all g none ≤ h
  none_low = omega arith

  -- a node that is no branch and no call
  pub quiet : (n : ℕ) → n ≤ h → max 0 n ≤ h
  quiet n e = omega arith

  pub more_low : (t : Syntax) (ts : Forest) → height_of g t ≤ h → height_of_all g ts ≤ h →
      height_of_all g (more t ts) ≤ h
  more_low t ts a b = both (height_of g t) (height_of_all g ts) h a b

  pub one_low : (t : Syntax) → height_of g t ≤ h → height_of_all g (forest1 t) ≤ h
  one_low t a = more_low t none a none_low

  pub two_low : (s t : Syntax) → height_of g s ≤ h → height_of g t ≤ h → height_of_all g (forest2 s t) ≤ h
  two_low s t a b = more_low s (forest1 t) a (one_low t b)

  pub three_low : (s t u : Syntax) → height_of g s ≤ h → height_of g t ≤ h → height_of g u ≤ h →
      height_of_all g (forest3 s t u) ≤ h
  three_low s t u a b c = more_low s (forest2 t u) a (two_low t u b c)

  pub joined_low : (ts us : Forest) → height_of_all g ts ≤ h → height_of_all g us ≤ h →
      height_of_all g (joined ts us) ≤ h
  joined_low none us a b = b
  joined_low (more t ts) us a b =
      more_low t (joined ts us)
      (through (height_of g t) (max (height_of g t) (height_of_all g ts)) h
      (front (height_of g t) (height_of_all g ts)) a)
      (joined_low ts us (through (height_of_all g ts) (max (height_of g t) (height_of_all g ts)) h
      (behind (height_of g t) (height_of_all g ts)) a) b)

  pub leaf_low : max 0 (height_of_all g none) ≤ h
  leaf_low = quiet (height_of_all g none) none_low

  pub paren_low : (s : Span) (t : Syntax) → height_of g t ≤ h → height_of g (paren_at s t) ≤ h
  paren_low s t a = quiet (height_of_all g (forest1 t)) (one_low t a)

  pub spaced_low : (space : Space) (constant : Bool) (of : IntType) (s : Span) →
      height_of g (spaced_at space constant of s) ≤ h
  spaced_low space constant of s = quiet (max (max 0 0) 0) (both (max 0 0) 0 h leaf_low none_low)

  pub cast_low : (of : IntType) (s : Span) (t : Syntax) → height_of g t ≤ h → height_of g (cast_at of s t) ≤ h
  cast_low of s t a = quiet (height_of_all g (forest2 (typed_at of s) (paren_at s t)))
      (two_low (typed_at of s) (paren_at s t) leaf_low (paren_low s t a))

  pub operator_low : (op : Bin) (s : Span) (a b : Syntax) → height_of g a ≤ h → height_of g b ≤ h →
      height_of g (joined_at op s a b) ≤ h
  operator_low op s a b p q = by op
    where
      e : max 0 (height_of_all g (forest2 a b)) ≤ h
      e = quiet (height_of_all g (forest2 a b)) (two_low a b p q)

      by : (op : Bin) → height_of g (joined_at op s a b) ≤ h
      by bins.Mul = e
      by bins.Div = e
      by bins.Rem = e
      by bins.Add = e
      by bins.Sub = e
      by bins.Shl = e
      by bins.Shr = e
      by bins.And = e
      by bins.Xor = e
      by bins.Or = e
      by bins.Eq = e
      by bins.Ne = e
      by bins.Lt = e
      by bins.Le = e
      by bins.Gt = e
      by bins.Ge = e

  pub signed_low : (op : Un) (s : Span) (a : Syntax) → height_of g a ≤ h → height_of g (signed_at op s a) ≤ h
  signed_low op s a p = quiet (height_of_all g (forest1 a)) (one_low a p)

  amount_low : (of : IntType) (s : Span) (b : Syntax) → height_of g b ≤ h → height_of g (amount_at of s b) ≤ h
  amount_low of s b p = paren_low s (joined_at bins.And s b (int_at (width_bits of - 1) s))
      (operator_low bins.And s b (int_at (width_bits of - 1) s) p leaf_low)

  pub component_low : (op : Bin) (of : IntType) (s : Span) (a b : Syntax) → height_of g a ≤ h → height_of g b ≤ h →
      height_of g (component_joined op of s a b) ≤ h
  component_low op of s a b p q = by (is_comparison op) (is_shift op)
    where
      by : (c d : Bool) →
          height_of g (if c then cast_at of s (signed_at uns.Minus s (paren_at s (joined_at op s a b)))
          else (if d then cast_at of s (joined_at op s a (amount_at of s b)) else cast_at of s (joined_at op s a b))) ≤
          h
      by true d = cast_low of s (signed_at uns.Minus s (paren_at s (joined_at op s a b)))
          (signed_low uns.Minus s (paren_at s (joined_at op s a b))
          (paren_low s (joined_at op s a b) (operator_low op s a b p q)))
      by false true = cast_low of s (joined_at op s a (amount_at of s b))
          (operator_low op s a (amount_at of s b) p (amount_low of s b q))
      by false false = cast_low of s (joined_at op s a b) (operator_low op s a b p q)

  pub element_low : (s : Span) (p i : Syntax) → height_of g p ≤ h → height_of g i ≤ h →
      height_of g (element_at s p i) ≤ h
  element_low s p i a b = quiet (height_of_all g (forest2 p i)) (two_low p i a b)

  pub scaled_low : (v : Vector) (i : Syntax) → height_of g i ≤ h → height_of g (scaled v i) ≤ h
  scaled_low v i a = operator_low bins.Mul (span_of i) (cast_at types.Long (span_of i) i)
      (long_at v.count (span_of i)) (cast_low types.Long (span_of i) i a) leaf_low

  pub further_low : (c : ℕ) (i : Syntax) → height_of g i ≤ h → height_of g (further c i) ≤ h
  further_low c i a = operator_low bins.Add (span_of i) i (long_at c (span_of i)) a leaf_low

  -- ---- lines

  pub assigned_low : (w : List ℕ) (s : Span) (target value : Syntax) → height_of g target ≤ h →
      height_of g value ≤ h → height_of g (assigned_at w s target value) ≤ h
  assigned_low w s target value a b = quiet (height_of_all g (forest2 target value)) (two_low target value a b)

  pub statement_low : (s : Span) (target value : Syntax) → height_of g target ≤ h → height_of g value ≤ h →
      height_of g (statement_at s target value) ≤ h
  statement_low s target value a b =
      let x = assigned_at (codes "=") s target value in
      quiet (height_of_all g (forest1 x)) (one_low x (assigned_low (codes "=") s target value a b))

  pub declared_low : (s : Span) (type : Syntax) (name : List ℕ) (ps : Forest) → height_of g type ≤ h →
      height_of_all g ps ≤ h → height_of g (declared_at s type name ps) ≤ h
  declared_low s type name ps a b =
      let d = node forms.DeclaratorNode (name ++ codes " =") s.first s.last ps in
      quiet (height_of_all g (forest2 type d)) (two_low type d a (quiet (height_of_all g ps) b))
