-- What of a unit stays in the unit without vectors. The two differ in these points alone: declarations of vectors and
-- vector statements are replaced by lines that declare or assign, a selection of one component is that component's
-- variable or element, and a number beside a pointer to vectors is counted in components. Any other node is itself.
use Rattle.std.specs.Prelude.{◌≡◌, ◌⊎◌, ℕ, Option, None, Some, Bool, true, false, ◌&&◌, codes}
use Rattle.cl_tree.specs.declared.tree.Form.{Form}
use Rattle.cl_tree.specs.declared.tree.Form.TheVariants as forms
use Rattle.cl_tree.specs.Syntax.{Syntax, node, Forest, none, more, joined}
use Rattle.cl_tree.specs.Nodes.{forest1, forest2}
use Rattle.cl_meaning.specs.Spelling.{name_in, setting_in, prefix_in, postfix_in}
use Rattle.cl_meaning.specs.Declarations.{form_of, word_of}
use Rattle.cl_meaning.specs.declared.operators.Prefix.{Prefix}
use Rattle.cl_meaning.specs.declared.operators.Prefix.TheVariants as prefixes
use Rattle.cl_meaning.specs.declared.operators.Postfix.{Postfix}
use Rattle.cl_meaning.specs.declared.operators.Postfix.TheVariants as postfixes
use Rattle.cl_meaning.specs.declared.operators.Setting.{Setting}
use Rattle.cl_meaning.specs.declared.operators.Setting.TheVariants as settings
use Rattle.cl_short_vec.specs.declared.nodes.Span.{Span}
use Rattle.cl_short_vec.specs.declared.types.Vector.{Vector}
use Rattle.cl_short_vec.specs.declared.kinds.Kind.{Kind}
use Rattle.cl_short_vec.specs.declared.kinds.Kind.TheVariants.{Pointer, Other}
use Rattle.cl_meaning.specs.Kinds.{is_some}
use Rattle.cl_short_vec.specs.Types.{vector_type}
use Rattle.cl_short_vec.specs.Kinds.{is_vector}
use Rattle.cl_short_vec.specs.Marks.{Mark, mark, Marks, unmarked, marking, tree_at, kind_at}
use Rattle.cl_short_vec.specs.Order.{is_through}
use Rattle.cl_short_vec.specs.Nodes.{span_of, at, with_parts, variable_at, long_at, paren_at, element_at, scaled}
use Rattle.cl_short_vec.specs.Nodes.{further}
use Rattle.cl_short_vec.specs.Nodes.{component_name}
use Rattle.cl_short_vec.specs.Scalar.{component_typed, counted, counted_behind, one_component}
use Rattle.cl_short_vec.specs.Unit.{is_declaration}

-- ---- nodes

-- a node with other parts; a type, of which the only part is its space, has the type of the components for a vector
abbrev pub renewed : Form → Syntax → Forest → Syntax
renewed forms.TypeNode t none = component_typed t none
renewed forms.TypeNode t (more p none) = component_typed t (more p none)
renewed form t parts = with_parts t parts

-- ---- a number beside a pointer to vectors

-- in front of a pointer: what is there, and a step
abbrev pub counted_prefix : Option Prefix → Kind → Syntax → (operand : Syntax) → Option Syntax
counted_prefix (Some prefixes.Content) (Pointer space c v) t p =
    Some (element_at (span_of t) (paren_at (span_of t) p) (long_at 0 (span_of t)))
counted_prefix (Some (prefixes.Step op)) (Pointer space c v) t p = Some (counted op v (span_of t) p)
counted_prefix o k t p = None

-- a step behind a pointer
abbrev pub counted_postfix : Option Postfix → Kind → Syntax → (operand : Syntax) → Option Syntax
counted_postfix (Some (postfixes.Step op)) (Pointer space c v) t p = Some (counted_behind op v (span_of t) p)
counted_postfix o k t p = None

-- of one operand, a pointer
abbrev pub counted_one : Form → Kind → Syntax → (operand : Syntax) → Option Syntax
counted_one forms.UnaryNode k t p = counted_prefix (prefix_in (word_of t)) k t p
counted_one forms.PostfixNode k t p = counted_postfix (postfix_in (word_of t)) k t p
counted_one form k t p = None

-- behind `+=` and `-=`
abbrev pub counted_setting : Option Setting → Vector → Syntax → (target value : Syntax) → Option Syntax
counted_setting (Some (settings.With op)) v t a b = Some (with_parts t (forest2 a (scaled v b)))
counted_setting o v t a b = None

-- of two operands, of which one is a pointer and the other one is counted in components
abbrev pub counted_two : Form → (front back : Kind) → Syntax → (a b : Syntax) → Option Syntax
counted_two forms.PostfixNode (Pointer space c v) k t a b = Some (element_at (span_of t) a (scaled v b))
counted_two forms.AssignNode (Pointer space c v) (Other y) t a b = counted_setting (setting_in (word_of t)) v t a b
counted_two forms.SumNode (Pointer space c v) (Other y) t a b = Some (with_parts t (forest2 a (scaled v b)))
counted_two forms.SumNode (Other y) (Pointer space c v) t a b = Some (with_parts t (forest2 (scaled v a) b))
counted_two form j k t a b = None

-- what stands for a pointer to vectors with what is counted beside it, where these stand for its parts
abbrev pub counted_parts : Syntax → Marks → (parts : Forest) → Option Syntax
counted_parts t (marking a unmarked) (more p none) = counted_one (form_of t) (kind_at a) t p
counted_parts t (marking a (marking b unmarked)) (more p (more q none)) =
    counted_two (form_of t) (kind_at a) (kind_at b) t p q
counted_parts t ms parts = None

abbrev pub counted_or : Option Syntax → (itself : Syntax) → Syntax
counted_or (Some u) t = u
counted_or None t = t

-- ---- components

-- the component of what a pointer points to
abbrev pub ContentOf : Form → Option Prefix → Kind → ℕ → Span → Syntax → (pointer : Syntax) → Syntax → Type 0
ContentOf forms.UnaryNode (Some prefixes.Content) (Pointer space d v) c s t p u =
    u ≡ element_at s (paren_at (span_of t) p) (further c (long_at 0 (span_of t)))
ContentOf form o k c s t p u = ⊥

-- the component of an element at an index
abbrev pub ElementOf : Form → Kind → ℕ → Span → Syntax → (pointer index : Syntax) → Syntax → Type 0
ElementOf forms.PostfixNode (Pointer space d v) c s t a b u = u ≡ element_at s a (further c (scaled v b))
ElementOf form k c s t a b u = ⊥

-- ---- expressions

abbrev mutual
  -- what stands for an expression or a type: what a selection of one component selects; and else what is counted in
  -- components, or where nothing is, itself
  pub Stays : Mark → Syntax → Type 0
  Stays (mark t k ms) u = ((one_component (mark t k ms) ≡ None) × ((parts : Forest) ×
      (u ≡ counted_or (counted_parts t ms parts) (renewed (form_of t) t parts)) × AllStay ms parts)) ⊎
      Selects t k ms u

  pub AllStay : Marks → Forest → Type 0
  AllStay unmarked none = Unit {0}
  AllStay unmarked (more u us) = ⊥
  AllStay (marking m ms) none = ⊥
  AllStay (marking m ms) (more u us) = Stays m u × AllStay ms us

  -- one component is a variable or an element
  pub Selects : Syntax → Kind → Marks → Syntax → Type 0
  Selects t k unmarked u = ⊥
  Selects t k (marking a unmarked) u =
      (c : ℕ) × (one_component (mark t k (marking a unmarked)) ≡ Some c) × ComponentStays c (span_of t) a u
  Selects t k (marking a (marking b ms)) u = ⊥

  -- that component of a variable or an element, through parentheses and selections, for what has that span
  pub ComponentStays : ℕ → Span → Mark → Syntax → Type 0
  ComponentStays c s (mark t k unmarked) u = u ≡ variable_at (component_name (name_in (word_of t)) c) s
  ComponentStays c s (mark t k (marking a unmarked)) u =
      ((is_through t ≡ true) × ComponentStays c s a u) ⊎ ((is_through t ≡ false) × ((p : Syntax) × Stays a p ×
      ContentOf (form_of t) (prefix_in (word_of t)) (kind_at a) c s t p u))
  ComponentStays c s (mark t k (marking a (marking b unmarked))) u = (p : Syntax) × (q : Syntax) × Stays a p ×
      Stays b q × ElementOf (form_of t) (kind_at a) c s t p q u
  ComponentStays c s (mark t k (marking a (marking b (marking d ms)))) u = ⊥

-- ---- statements and declarations

-- an assignment to a vector, as the whole of a statement
abbrev pub sets_by : Form → Marks → Bool
sets_by forms.AssignNode (marking a (marking b unmarked)) = is_vector (kind_at a)
sets_by form ms = false

-- the only part of a statement is one
abbrev pub sets_whole : Marks → Bool
sets_whole (marking (mark t k parts) unmarked) = sets_by (form_of t) parts
sets_whole ms = false

-- a line that declares or assigns: it is no jump, no loop, no choice, no block and no barrier
abbrev pub DeclaresOrAssigns : Syntax → Type 0
DeclaresOrAssigns (node forms.DeclareNode w f l parts) = Unit {0}
DeclaresOrAssigns (node forms.SimpleNode w f l (more (node forms.AssignNode w' f' l' parts) none)) = Unit {0}
DeclaresOrAssigns t = ⊥

abbrev pub AllDeclareOrAssign : Forest → Type 0
AllDeclareOrAssign none = Unit {0}
AllDeclareOrAssign (more u us) = DeclaresOrAssigns u × AllDeclareOrAssign us

-- a simple statement: a block of such lines where it sets a vector, and else itself
abbrev pub SimpleStays : Syntax → Kind → Marks → Syntax → Type 0
SimpleStays t k ms u = ((sets_whole ms ≡ true) × ((lines : Forest) × AllDeclareOrAssign lines ×
    (u ≡ at forms.BlockNode (codes "{ }") (span_of t) lines))) ⊎
    ((sets_whole ms ≡ false) × Stays (mark t k ms) u)

-- the type in front of some declarators is a vector's
abbrev pub typed_vectors : Marks → Bool
typed_vectors unmarked = false
typed_vectors (marking type ms) = is_some (vector_type (tree_at type))

-- a declaration whose type is a vector's
abbrev pub declares_vectors : Mark → Bool
declares_vectors (mark t k ms) = is_declaration (mark t k ms) && typed_vectors ms

-- a declaration in one node: of vectors, its type stays and its declarators are replaced
abbrev pub DeclarationStays : Syntax → Marks → Syntax → Type 0
DeclarationStays t unmarked u = u ≡ with_parts t none
DeclarationStays t (marking type ms) u = ((typed_vectors (marking type ms) ≡ true) × ((p : Syntax) ×
    (ds : Forest) × (u ≡ with_parts t (more p ds)) × Stays type p)) ⊎
    ((typed_vectors (marking type ms) ≡ false) × ((us : Forest) × (u ≡ with_parts t us) ×
    AllStay (marking type ms) us))

-- what holds of a node: by parts, as a block, as a loop with a head, as a simple statement, as a declaration, and as
-- an expression
abbrev pub by_form : Form → (parts lines looped simple declared expression : Type 0) → Type 0
by_form forms.UnitNode p l o s d e = p
by_form forms.FunctionNode p l o s d e = p
by_form forms.BlockNode p l o s d e = l
by_form forms.IfNode p l o s d e = p
by_form forms.WhileNode p l o s d e = p
by_form forms.DoNode p l o s d e = p
by_form forms.ForNode p l o s d e = o
by_form forms.SwitchNode p l o s d e = p
by_form forms.CaseNode p l o s d e = p
by_form forms.DefaultNode p l o s d e = p
by_form forms.SimpleNode p l o s d e = s
by_form forms.DeclareNode p l o s d e = d
by_form form p l o s d e = e

abbrev mutual
  -- what stands for a unit, a function, a statement or a declaration
  pub StaysTree : Mark → Syntax → Type 0
  StaysTree (mark t k ms) u = by_form (form_of t) ((us : Forest) × (u ≡ with_parts t us) × AllStayTrees ms us)
      ((us : Forest) × (u ≡ with_parts t us) × LinesStay ms us)
      ((us : Forest) × (u ≡ with_parts t us) × LoopStays ms us)
      (SimpleStays t k ms u) (DeclarationStays t ms u) (Stays (mark t k ms) u)

  pub AllStayTrees : Marks → Forest → Type 0
  AllStayTrees unmarked none = Unit {0}
  AllStayTrees unmarked (more u us) = ⊥
  AllStayTrees (marking m ms) none = ⊥
  AllStayTrees (marking m ms) (more u us) = StaysTree m u × AllStayTrees ms us

  -- the lines of a block: for each one the line that stands for it, and for a declaration of vectors several that
  -- declare or assign
  pub LinesStay : Marks → Forest → Type 0
  LinesStay unmarked us = us ≡ none
  LinesStay (marking m ms) us = (xs : Forest) × (rest : Forest) × (us ≡ joined xs rest) ×
      (((declares_vectors m ≡ true) × AllDeclareOrAssign xs) ⊎
      ((u : Syntax) × (xs ≡ forest1 u) × StaysTree m u)) × LinesStay ms rest

  -- the parts of a `for`: its first part is a declaration, or a statement that sets no vector
  pub LoopStays : Marks → Forest → Type 0
  LoopStays unmarked none = Unit {0}
  LoopStays unmarked (more u us) = ⊥
  LoopStays (marking m ms) none = ⊥
  LoopStays (marking m ms) (more u us) = (((is_declaration m ≡ true) × StaysTree m u) ⊎
      ((is_declaration m ≡ false) × Stays m u)) × AllStayTrees ms us
