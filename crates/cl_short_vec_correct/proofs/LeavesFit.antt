-- The leaves of an expression of the wide shape fit: numbers and elements are expressions without vectors, and each
-- component of a variable is visible.
use Rattle.std.proofs.Common.{◌≡◌, ℕ, zero, suc, ◌+◌, ◌<◌, ◌≤◌, List, [], ◌∷◌, map, Bool}
use Rattle.std.proofs.Common.{true, false, refl, ap, sym, ◌∙◌, subst, ◌⊎◌, inl, inr, arith}
use Rattle.std.proofs.lemmas.Bool.{false≢true}
use Rattle.wg_num.specs.declared.types.IntType.{IntType}
use Rattle.cl_model.specs.Lists.{Each}
use Rattle.cl_tree.specs.declared.tree.Form.{Form}
use Rattle.cl_tree.specs.declared.tree.Form.TheVariants as forms
use Rattle.cl_tree.specs.Syntax.{Syntax, node, Forest, none, more}
use Rattle.cl_meaning.specs.Spelling.{name_in}
use Rattle.cl_meaning.specs.Environment.{Env}
use Rattle.cl_check_sound.specs.Shape.{is_expression, IsType, IsExpressionOf, AreExpressionsOf, IsExpression}
use Rattle.cl_check_sound.proofs.Grown.{each_append}
use Rattle.cl_short_vec.specs.declared.types.Vector.{Vector}
use Rattle.cl_short_vec.specs.declared.kinds.Reach.TheVariants.{Variable, Element}
use Rattle.cl_short_vec.specs.declared.kinds.Kind.{Kind}
use Rattle.cl_short_vec.specs.declared.kinds.Kind.TheVariants.{Vectors, Pointer, Other}
use Rattle.cl_short_vec.specs.declared.made.Made.{Made}
use Rattle.cl_short_vec.specs.declared.made.Made.TheVariants as made
use Rattle.cl_short_vec.specs.Types.{numbers}
use Rattle.cl_short_vec.specs.Kinds.{Names, within, later, is_vector}
use Rattle.cl_short_vec.specs.Marks.{Mark, mark, Marks, kind_at, vector_among, kind_by, marked, marked_parts}
use Rattle.cl_short_vec.specs.Made.{made_of}
use Rattle.cl_short_vec.specs.Nodes.{component_name}
use Rattle.cl_short_vec.specs.Order.{Named, Step, Copy, Load, type_in, count_in, named_by, copies}
use Rattle.cl_short_vec.specs.Order.{element_steps, steps_by, steps_in, all_steps, list_steps}
use Rattle.cl_short_vec.specs.Order.{inside_steps, is_element_in}
use Rattle.cl_short_vec.specs.Scalar.{scalar}
use Rattle.cl_short_vec.proofs.Small.{SmallKind, SmallMark, SmallMarks}
use Rattle.cl_short_vec_correct.proofs.Scalars.{expression_is}
use Rattle.cl_short_vec_correct.specs.Sources.{is_sourced, Sourced, AllSourced}
use Rattle.cl_short_vec.proofs.OwnNames.{front_blank}
use Rattle.cl_short_vec_correct.proofs.Sourced.{SourcedMark, marked_sourced}
use Rattle.cl_short_vec_correct.proofs.StepFits.{IsElementMark, ComponentFits, LeafFits}
use Rattle.cl_short_vec_correct.proofs.Says.{Says, within_says}
use Rattle.cl_short_vec_correct.proofs.Reaches.{AreNamed, named_variable, within_named}
use Rattle.cl_short_vec_correct.proofs.Making.{is_variable_made, is_element_made, made_apart}
use Rattle.cl_short_vec_correct.proofs.Making.{is_made_of_parts, variable_is, element_is, parts_are, AreTypesOr}
use Rattle.cl_short_vec_correct.proofs.Making.{operands_are}
use Rattle.cl_short_vec_correct.proofs.Making.{expression_form, later_same}

-- what is asked of names: those that stand for vectors are variables, whose components are visible
abbrev pub NamesFit : Env → Names → Type 0
NamesFit env names = AreNamed names × Says names env

-- ---- numbers in a row

-- what holds of all numbers below some holds of steps for those in a row
pub in_row : (P : Step → Type 0) (step : ℕ → Step) (first n m : ℕ) → first + n ≤ m →
    ((c : ℕ) → c < m → P (step c)) → Each P (map step (numbers first 1 n))
in_row P step first zero m l h = tt
in_row P step first (suc n) m l h = (h first (omega arith), in_row P step (first + 1) n m (omega arith) h)

pub from_start : (P : Step → Type 0) (step : ℕ → Step) (n m : ℕ) → n ≤ m → ((c : ℕ) → c < m → P (step c)) →
    Each P (map step (numbers 0 1 n))
from_start P step n m l h = in_row P step 0 n m (omega arith) h

-- ---- words of a source

pub parts_sourced : (form : Form) (w : List ℕ) (f l : ℕ) (parts : Forest) → Sourced (node form w f l parts) →
    AllSourced parts
parts_sourced form w f l none h = tt
parts_sourced form w f l (more p ps) h = h.1

variable_sourced : (w : List ℕ) (f l : ℕ) (parts : Forest) → Sourced (node forms.VariableNode w f l parts) →
    is_sourced (name_in w) ≡ true
variable_sourced w f l none h = h
variable_sourced w f l (more p ps) h = h.0

pub named_sourced : (form : Form) (w : List ℕ) (f l : ℕ) (parts : Forest) → Sourced (node form w f l parts) →
    form ≡ forms.VariableNode → is_sourced (name_in w) ≡ true
named_sourced form w f l parts h e =
    variable_sourced w f l parts (subst (λ z. Sourced (node z w f l parts)) e h)

pub component_sourced : (n : List ℕ) (c : ℕ) → is_sourced n ≡ true → is_sourced (component_name n c) ≡ true
component_sourced [] c h = absurd (false≢true h)
component_sourced (b ∷ n) c h = h

-- ---- elements

pub element_mark : (m : Mark) → is_element_in (kind_at m) ≡ true → IsElementMark m
element_mark m h = by (kind_at m) refl h
  where
    by : (k : Kind) → kind_at m ≡ k → is_element_in k ≡ true → IsElementMark m
    by (Vectors v (Element s c)) e g = record { vector = v; space = s; constant = c; is = e }
    by k e g = absurd (false≢true g)

pub count_small : (k : Kind) → SmallKind k → count_in k ≤ 16
count_small (Vectors v r) h = h
count_small (Pointer s c v) h = omega arith
count_small (Other b) h = omega arith

module _ (env : Env) where
  -- an element that is an expression, with the words of a source
  abbrev pub ElementFits : Mark → Type 0
  ElementFits m = IsElementMark m × IsExpression (scalar m) × SourcedMark m

  element_leaves : (m : Mark) → IsElementMark m → SmallKind (kind_at m) → IsExpression (scalar m) → SourcedMark m →
      Each (LeafFits env) (element_steps m)
  element_leaves m e s x h = (
    (e, x, h),
    from_start (LeafFits env) (Load m) (count_in (kind_at m)) 16 (count_small (kind_at m) s)
        (λ c l. (e, (omega arith))),
  )

  -- ---- variables

  pub variable_fits : (names : Names) (w : List ℕ) (f l : ℕ) (parts : Forest) (v : Vector) (c : ℕ) →
      Says names env → is_sourced (name_in w) ≡ true → names (name_in w) ≡ Vectors v Variable →
      c < v.count → ComponentFits env (named_by (node forms.VariableNode w f l parts)) c v.of
  variable_fits names w f l parts v c n h e i =
      let says = n (name_in w) v e c i in record {
        blank = front_blank w;
        sourced = component_sourced (name_in w) c h;
        constant = says.0;
        variable = says.1;
        visible = says.2;
      }

  -- the components below that number of a variable are visible, as those of its type
  abbrev pub AllVisible : IntType → Named → ℕ → Type 0
  AllVisible of x n = (c : ℕ) → c < n → ComponentFits env x c of

  pub node_visible : (names : Names) (form : Form) (w : List ℕ) (f l : ℕ) (parts : Forest) (k : Kind) →
      NamesFit env names → Sourced (node form w f l parts) → form ≡ forms.VariableNode → k ≡ names (name_in w) →
      is_vector k ≡ true → AllVisible (type_in k) (named_by (node form w f l parts)) (count_in k)
  node_visible names form w f l parts k n h e i v =
      let named = named_variable (names (name_in w)) (n.0 (name_in w)) (ap is_vector (sym i) ∙ v) in
      let u = named.0 in
      subst (λ z. AllVisible (type_in z) (named_by (node form w f l parts)) (count_in z)) (sym (i ∙ named.1))
      (λ c s. subst (λ z. ComponentFits env (named_by (node z w f l parts)) c u.of) (sym e)
      (variable_fits names w f l parts u c n.1 (named_sourced form w f l parts h e) named.1 s))

  variable_leaves : (of : IntType) (x : Named) (n : ℕ) → AllVisible of x n →
      Each (LeafFits env) (copies of x (numbers 0 1 n))
  variable_leaves of x n h = from_start (LeafFits env) (Copy of x) n n (omega arith) h

  -- ---- expressions

  -- a node, where the leaves of its parts fit as far as they are its leaves
  node_leaves : (form : Form) (w : List ℕ) (f l : ℕ) (parts : Forest) (names : Names) (listed : Bool) (of : IntType)
      (ms : Marks) (items all lists : List Step) → let t = node form w f l parts in
      let k = kind_by names form w ms in IsExpression (scalar (mark t k ms)) → Sourced t → SourcedMark (mark t k ms) →
      SmallKind k → NamesFit env names → (is_made_of_parts (made_of listed t k) ≡ true → Each (LeafFits env) items) →
      (is_made_of_parts (made_of listed t k) ≡ true → Each (LeafFits env) all) →
      Each (LeafFits env) lists →
      Each (LeafFits env) (steps_by (made_of listed t k) of (mark t k ms) items all lists)
  node_leaves form w f l parts names listed of ms items all lists x s q m n i a o = by (made_of listed t k) refl
    where
      t : Syntax
      t = node form w f l parts

      k : Kind
      k = kind_by names form w ms

      by : (how : Made) → made_of listed t k ≡ how → Each (LeafFits env) (steps_by how of (mark t k ms) items all lists)
      by made.Number e = ((x, q), tt)
      by made.Variable e =
          let g = made_apart is_variable_made listed form w f l parts k refl refl (ap is_variable_made e) in
          let v = variable_is form w names ms g.1 g.0 in
          variable_leaves (type_in k) (named_by t) (count_in k)
          (node_visible names form w f l parts k n s v.0 v.1 g.0)
      by made.Element e =
          let g = made_apart is_element_made listed form w f l parts k refl refl (ap is_element_made e) in
          element_leaves (mark t k ms) (element_mark (mark t k ms) (element_is form w names ms g.1 g.0)) m x q
      by made.Listed e = o
      by made.Items e = i (ap is_made_of_parts e)
      by made.Inside e = a (ap is_made_of_parts e)
      by (made.Signed op) e = a (ap is_made_of_parts e)
      by made.Selected e = a (ap is_made_of_parts e)
      by (made.Joined op) e = a (ap is_made_of_parts e)
      by made.Called e = a (ap is_made_of_parts e)

  mutual
    unfolding marked marked_parts steps_in all_steps list_steps inside_steps

    -- of an operand, or of items where `listed` says so
    pub leaves_fit : (t : Syntax) (names : Names) (listed : Bool) (of : IntType) → IsExpressionOf true t → Sourced t →
        SmallMark (marked names t) → NamesFit env names → Each (LeafFits env) (steps_in listed of (marked names t))
    leaves_fit (node form w f l parts) names listed of h s m n =
        let t = node form w f l parts in
        let inner = within form w names in
        let fit : NamesFit env inner = (within_named form w names n.0, within_says form w names env n.1) in
        let ms = marked_parts form parts inner true parts in
        let k = kind_by names form w ms in
        let is = expression_form t h in
        let words = parts_sourced form w f l parts s in
        let first = type_in (vector_among ms) in
        node_leaves form w f l parts names listed of ms (all_steps true of ms) (all_steps false first ms)
        (list_steps (type_in k) ms) (expression_is t names m h) s (marked_sourced t names s) m.0 n
        (λ e. all_fit parts form parts inner true true of is (parts_are t listed k e h) words m.1 fit)
        (λ e. all_fit parts form parts inner true false first is (parts_are t listed k e h) words m.1 fit)
        (lists_fit parts form parts inner true (type_in k) is (operands_are t h) words m.1 fit)

    pub all_fit : (ps : Forest) (form : Form) (all : Forest) (names : Names) (front listed : Bool) (of : IntType) →
        is_expression form ≡ true → AreExpressionsOf true ps → AllSourced ps →
        SmallMarks (marked_parts form all names front ps) → NamesFit env names →
        Each (LeafFits env) (all_steps listed of (marked_parts form all names front ps))
    all_fit none form all names front listed of is h s m n = tt
    all_fit (more p ps) form all names front listed of is h s m n =
        let next = later form all names front p in
        each_append (LeafFits env) (steps_in listed of (marked names p))
        (all_steps false of (marked_parts form all next false ps)) (leaves_fit p names listed of h.0 s.0 m.0 n)
        (all_fit ps form all next false false of is h.1 s.1 m.1
        (subst (λ z. NamesFit env z) (sym (later_same form all names front p is (inr h.0))) n))

    -- the parts that are lists in parentheses
    lists_fit : (ps : Forest) (form : Form) (all : Forest) (names : Names) (front : Bool) (of : IntType) →
        is_expression form ≡ true → AreTypesOr ps → AllSourced ps →
        SmallMarks (marked_parts form all names front ps) → NamesFit env names →
        Each (LeafFits env) (list_steps of (marked_parts form all names front ps))
    lists_fit none form all names front of is h s m n = tt
    lists_fit (more p ps) form all names front of is h s m n =
        let next = later form all names front p in
        each_append (LeafFits env) (inside_steps of (marked names p))
        (list_steps of (marked_parts form all next false ps)) (inside_fit p names of h.0 s.0 m.0 n)
        (lists_fit ps form all next false of is h.1 s.1 m.1
        (subst (λ z. NamesFit env z) (sym (later_same form all names front p is h.0)) n))

    inside_fit : (p : Syntax) (names : Names) (of : IntType) → IsType p ⊎ IsExpressionOf true p → Sourced p →
        SmallMark (marked names p) → NamesFit env names → Each (LeafFits env) (inside_steps of (marked names p))
    inside_fit (node forms.ParenNode w f l (more a none)) names of (inr h) s m n =
        all_fit (more a none) forms.ParenNode (more a none) names true true of refl (h, tt) (s.1.0, tt) m.1 n
    inside_fit (node forms.ParenNode w f l parts) names of (inr h) s m n = absurd h
    inside_fit (node forms.ParenNode w f l parts) names of (inl h) s m n = absurd h
    inside_fit (node _ w f l parts) names of h s m n = tt
