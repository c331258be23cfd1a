-- A unit that names no vector type and selects nothing has no vector statement: each of none does its steps.
use Rattle.std.proofs.Common.{◌≡◌, ℕ, List, Option, None, Some, Bool, true, false, ◌&&◌, ◌||◌, if◌then◌else◌, refl}
use Rattle.std.proofs.Common.{ap, sym, ◌∙◌, subst}
use Rattle.std.specs.Prelude.{codes}
use Rattle.std.proofs.lemmas.Bool.{false≢true}
use Rattle.std.specs.Str.{bytes_eq}
use Rattle.wg_num.specs.declared.types.Place.{Place}
use Rattle.wg_num.specs.declared.types.Bin.{Bin}
use Rattle.wg_num.specs.declared.types.Bin.TheVariants as bins
use Rattle.wg_num.specs.declared.types.Un.TheVariants as uns
use Rattle.cl_tree.specs.declared.tree.Form.{Form}
use Rattle.cl_tree.specs.declared.tree.Form.TheVariants as forms
use Rattle.cl_tree.specs.Syntax.{Syntax, node, Forest, none, more}
use Rattle.cl_tree.specs.Selections.{is_selection}
use Rattle.cl_meaning.specs.Spelling.{name_in, binary_in, prefix_in, postfix_in, intrinsic_in}
use Rattle.cl_meaning.specs.declared.operators.Prefix.{Prefix}
use Rattle.cl_meaning.specs.declared.operators.Prefix.TheVariants as prefixes
use Rattle.cl_meaning.specs.declared.operators.Postfix.{Postfix}
use Rattle.cl_meaning.specs.declared.operators.Postfix.TheVariants as postfixes
use Rattle.cl_meaning.specs.declared.names.Intrinsic.{Intrinsic}
use Rattle.cl_meaning.specs.declared.names.Intrinsic.TheVariants as intrinsics
use Rattle.cl_meaning.specs.Types.{declared_in}
use Rattle.cl_meaning.specs.Kinds.{is_some}
use Rattle.cl_meaning.specs.Environment.{Env}
use Rattle.cl_meaning.specs.Declarations.{form_of, word_of, parts_of, second_star}
use Rattle.cl_meaning.specs.Visible.{inside, behind_parts}
use Rattle.cl_meaning.specs.Meant.{parts_meant}
use Rattle.cl_short_vec.specs.declared.nodes.Span.{Span}
use Rattle.cl_short_vec.specs.declared.kinds.Kind.{Kind}
use Rattle.cl_short_vec.specs.declared.kinds.Kind.TheVariants.{Vectors, Pointer, Other}
use Rattle.cl_short_vec.specs.Types.{vector_type, selection_in}
use Rattle.cl_short_vec.specs.Kinds.{Names, no_names, with_name, is_other, is_vector, value_of, behind_declared}
use Rattle.cl_short_vec.specs.Kinds.{behind_declarator}
use Rattle.cl_short_vec.specs.Kinds.{behind_declarators, behind_declaration, pointed_by, parameter_kind}
use Rattle.cl_short_vec.specs.Kinds.{behind_parameter, behind_parameters, behind_part, prefix_kind, postfix_kind}
use Rattle.cl_short_vec.specs.Kinds.{called_kind, cast_kind, joined_kind, pointer_moved, pointer_alone, is_operator}
use Rattle.cl_short_vec.specs.Kinds.{calls_fence, with_fences, within}
use Rattle.cl_short_vec.specs.Kinds as kinds
use Rattle.cl_short_vec.specs.Plain.{is_about_vectors, has_vectors, have_vectors}
use Rattle.cl_short_vec.specs.Marks.{Mark, mark, Marks, unmarked, marking, tree_at, kind_at, front_kind, back_kind}
use Rattle.cl_short_vec.specs.Marks.{vector_among, front_type, kind_by, marked, marked_parts}
use Rattle.cl_short_vec.specs.Unit.{is_declaration}
use Rattle.cl_short_vec_correct.specs.Each.{is_assignment, lines_for, OfWhole, OfSimple, OfTyped, OfDeclaration}
use Rattle.cl_short_vec_correct.specs.Each.{ByForm, PartDoes, Throughout, ThroughParts, SettingClaim, DeclaratorClaim}

-- ---- nothing is a vector

abbrev AllOther : Names → Type 0
AllOther names = (q : List ℕ) → is_other (names q) ≡ true

abbrev mutual
  NoVector : Mark → Type 0
  NoVector (mark t k ms) = (is_other k ≡ true) × (vector_type t ≡ None) × AllPlain ms

  AllPlain : Marks → Type 0
  AllPlain unmarked = Unit {0}
  AllPlain (marking m ms) = NoVector m × AllPlain ms

no_type : {A : Type 0} (o : Option A) → is_some o ≡ false → o ≡ None
no_type None h = refl
no_type (Some v) h = absurd (false≢true (sym h))

either_false : (a b : Bool) → (a || b) ≡ false → (a ≡ false) × (b ≡ false)
either_false true b h = absurd (false≢true (sym h))
either_false false b h = (refl, h)

-- a type that names no vector type
own_type : (t : Syntax) → has_vectors t ≡ false → vector_type t ≡ None
own_type (node form w f l ps) h =
    let t = node form w f l ps in
    no_type (vector_type t) (either_false (is_some (vector_type t)) (is_selection t)
    (either_false (is_about_vectors t) (have_vectors ps) h).0).0

-- ---- kinds

kind_other : (m : Mark) → NoVector m → is_other (kind_at m) ≡ true
kind_other (mark t k ms) h = h.0

tree_plain : (m : Mark) → NoVector m → vector_type (tree_at m) ≡ None
tree_plain (mark t k ms) h = h.1

other_no_vector : (k : Kind) → is_other k ≡ true → is_vector k ≡ false
other_no_vector (Other b) h = refl
other_no_vector (Vectors v r) h = absurd (false≢true h)
other_no_vector (Pointer s c v) h = absurd (false≢true h)

front_other : (ms : Marks) → AllPlain ms → is_other (front_kind ms) ≡ true
front_other unmarked h = refl
front_other (marking m ms) h = kind_other m h.0

back_other : (ms : Marks) → AllPlain ms → is_other (back_kind ms) ≡ true
back_other unmarked h = refl
back_other (marking m unmarked) h = kind_other m h.0
back_other (marking m (marking n ns)) h = back_other (marking n ns) h.1

among_other : (ms : Marks) → AllPlain ms → is_other (vector_among ms) ≡ true
among_other unmarked h = refl
among_other (marking m ms) h =
    ap (λ b. is_other (if b then value_of (kind_at m) else vector_among ms))
    (other_no_vector (kind_at m) (kind_other m h.0)) ∙ among_other ms h.1

front_none : (ms : Marks) → AllPlain ms → front_type ms ≡ None
front_none unmarked h = refl
front_none (marking m ms) h = tree_plain m h.0

prefix_other : (o : Option Prefix) (k : Kind) → is_other k ≡ true → is_other (prefix_kind o k) ≡ true
prefix_other (Some (prefixes.Operator uns.Not)) (Other b) h = refl
prefix_other (Some (prefixes.Operator op)) (Other b) h = refl
prefix_other (Some prefixes.Content) (Other b) h = refl
prefix_other (Some prefixes.Address) (Other b) h = refl
prefix_other (Some (prefixes.Step op)) (Other b) h = refl
prefix_other o (Other b) h = refl
prefix_other o (Vectors v r) h = absurd (false≢true h)
prefix_other o (Pointer s c v) h = absurd (false≢true h)

postfix_other : (s : Option (List ℕ)) (o : Option Postfix) (k : Kind) → is_other k ≡ true →
    is_other (postfix_kind s o k) ≡ true
postfix_other (Some name) o (Other b) h = refl
postfix_other None (Some postfixes.Index) (Other b) h = refl
postfix_other None (Some (postfixes.Step op)) (Other b) h = refl
postfix_other None None (Other b) h = refl
postfix_other s o (Vectors v r) h = absurd (false≢true h)
postfix_other s o (Pointer space c v) h = absurd (false≢true h)

called_other : (i : Option Intrinsic) (k : Kind) → is_other k ≡ true → is_other (called_kind i k) ≡ true
called_other (Some (intrinsics.Function g)) (Other b) h = refl
called_other i (Other b) h = refl
called_other i (Vectors v r) h = absurd (false≢true h)
called_other i (Pointer s c v) h = absurd (false≢true h)

alone_other : (k : Kind) → is_other k ≡ true → is_other (pointer_alone k) ≡ true
alone_other (Other b) h = refl
alone_other (Vectors v r) h = absurd (false≢true h)
alone_other (Pointer s c v) h = absurd (false≢true h)

moved_other : (op : Bin) (a b : Bool) → is_other (pointer_moved op (Other a) (Other b)) ≡ true
moved_other bins.Add a b = refl
moved_other bins.Sub a b = refl
moved_other op a b = refl

joined_other : (o : Option Bin) (j k : Kind) → is_other j ≡ true → is_other k ≡ true →
    is_other (joined_kind o j k) ≡ true
joined_other None j k g h = refl
joined_other (Some op) (Other a) (Other b) g h = moved_other op a b
joined_other (Some op) (Other a) (Vectors v r) g h = absurd (false≢true h)
joined_other (Some op) (Other a) (Pointer s c v) g h = absurd (false≢true h)
joined_other (Some op) (Vectors v r) k g h = absurd (false≢true g)
joined_other (Some op) (Pointer s c v) k g h = absurd (false≢true g)

kind_plain : (names : Names) (form : Form) (w : List ℕ) (ms : Marks) → AllOther names → AllPlain ms →
    is_other (kind_by names form w ms) ≡ true
unfolding kind_by
kind_plain names forms.VariableNode w ms n h = n (name_in w)
kind_plain names forms.ParenNode w ms n h = front_other ms h
kind_plain names forms.UnaryNode w ms n h = prefix_other (prefix_in w) (front_kind ms) (front_other ms h)
kind_plain names forms.PostfixNode w ms n h =
    postfix_other (selection_in w) (postfix_in w) (front_kind ms) (front_other ms h)
kind_plain names forms.CallNode w ms n h =
    called_other (intrinsic_in (name_in w)) (vector_among ms) (among_other ms h)
kind_plain names forms.CastNode w ms n h = ap (λ o. is_other (cast_kind o)) (front_none ms h)
kind_plain names forms.ExprNode w ms n h = alone_other (back_kind ms) (back_other ms h)
kind_plain names forms.AssignNode w ms n h = alone_other (front_kind ms) (front_other ms h)
kind_plain names form w ms n h = by (is_operator form)
  where
    by : (b : Bool) →
        is_other (if b then joined_kind (binary_in w) (front_kind ms) (back_kind ms) else Other true) ≡ true
    by true = joined_other (binary_in w) (front_kind ms) (back_kind ms) (front_other ms h) (back_other ms h)
    by false = refl

-- ---- names

with_other : (names : Names) (name : List ℕ) (k : Kind) → AllOther names → is_other k ≡ true →
    AllOther (with_name names name k)
with_other names name k n h q = by (bytes_eq name q)
  where
    by : (b : Bool) → is_other (if b then k else names q) ≡ true
    by true = h
    by false = n q

declared_other : (names : Names) (type d : Syntax) → vector_type type ≡ None → AllOther names →
    AllOther (behind_declarator names type d)
declared_other names type d e n =
    subst (λ o. AllOther (behind_declared o names type d)) (sym e) (by (is_some (declared_in type)))
  where
    by : (b : Bool) → AllOther (if b then with_name names (name_in (word_of d)) (Other true) else names)
    by true = with_other names (name_in (word_of d)) (Other true) n refl
    by false = n

declarators_other : (names : Names) (type : Syntax) (ds : Forest) → vector_type type ≡ None → AllOther names →
    AllOther (behind_declarators names type ds)
declarators_other names type none e n = n
declarators_other names type (more d ds) e n =
    declarators_other (behind_declarator names type d) type ds e (declared_other names type d e n)

parameter_other : (ps : Forest) → have_vectors ps ≡ false → is_other (parameter_kind ps) ≡ true
parameter_other none h = refl
parameter_other (more type others) h =
    ap (λ o. is_other (pointed_by o (second_star (more type others)) type))
    (own_type type (either_false (has_vectors type) (have_vectors others) h).0)

parts_plain : (t : Syntax) → has_vectors t ≡ false → have_vectors (parts_of t) ≡ false
parts_plain (node form w f l ps) h = (either_false (is_about_vectors (node form w f l ps)) (have_vectors ps) h).1

parameters_other : (names : Names) (ps : Forest) → have_vectors ps ≡ false → AllOther names →
    AllOther (behind_parameters names ps)
parameters_other names none h n = n
parameters_other names (more p ps) h n =
    let x = either_false (has_vectors p) (have_vectors ps) h in
    parameters_other (behind_parameter names p) ps x.1
    (with_other names (name_in (word_of p)) (parameter_kind (parts_of p)) n
    (parameter_other (parts_of p) (parts_plain p x.0)))

behind_other : (names : Names) (t : Syntax) → has_vectors t ≡ false → AllOther names → AllOther (kinds.behind names t)
behind_other names (node forms.DeclareNode w f l none) h n = n
behind_other names (node forms.DeclareNode w f l (more type ds)) h n =
    let x = parts_plain (node forms.DeclareNode w f l (more type ds)) h in
    declarators_other names type ds (own_type type (either_false (has_vectors type) (have_vectors ds) x).0) n
behind_other names (node forms.ParamsNode w f l ps) h n =
    parameters_other names ps (parts_plain (node forms.ParamsNode w f l ps) h) n
behind_other names (node forms.FunctionNode w f l ps) h n = with_other names (name_in w) (Other false) n refl
behind_other names t h n = n

behind_part_other : (names : Names) (all : Forest) (front : Bool) (p : Syntax) → have_vectors all ≡ false →
    AllOther names → AllOther (behind_part names all front p)
behind_part_other names (more type ds) false p h n =
    declared_other names type p (own_type type (either_false (has_vectors type) (have_vectors ds) h).0) n
behind_part_other names all front p h n = n

later_other : (form : Form) (all : Forest) (names : Names) (front : Bool) (p : Syntax) → have_vectors all ≡ false →
    has_vectors p ≡ false → AllOther names → AllOther (kinds.later form all names front p)
later_other forms.DeclareNode all names front p h k n = behind_part_other names all front p h n
later_other form all names front p h k n = behind_other names p k n

within_other : (form : Form) (w : List ℕ) (names : Names) → AllOther names → AllOther (within form w names)
within_other forms.CallNode w names n = by (calls_fence (intrinsic_in (name_in w)))
  where
    inner : Names
    inner = with_name names (codes "CLK_LOCAL_MEM_FENCE") (Other true)

    by : (b : Bool) → AllOther (if b then with_fences names else names)
    by true = with_other inner (codes "CLK_GLOBAL_MEM_FENCE") (Other true)
        (with_other names (codes "CLK_LOCAL_MEM_FENCE") (Other true) n refl) refl
    by false = n
within_other form w names n = n

-- ---- trees

mutual
  unfolding marked marked_parts

  plain_marks : (t : Syntax) (names : Names) → has_vectors t ≡ false → AllOther names → NoVector (marked names t)
  plain_marks (node form w f l ps) names h n =
      let t = node form w f l ps in
      let q = parts_plain t h in
      let x = plain_parts form ps (within form w names) true ps q q (within_other form w names n) in
      (kind_plain names form w (marked_parts form ps (within form w names) true ps) n x, own_type t h, x)

  plain_parts : (form : Form) (all : Forest) (names : Names) (front : Bool) (ps : Forest) → have_vectors all ≡ false →
      have_vectors ps ≡ false → AllOther names → AllPlain (marked_parts form all names front ps)
  plain_parts form all names front none a h n = tt
  plain_parts form all names front (more p ps) a h n =
      let x = either_false (has_vectors p) (have_vectors ps) h in (
        plain_marks p names x.0 n,
        plain_parts form all (kinds.later form all names front p) false ps a x.1
            (later_other form all names front p a x.0 n),
      )

-- ---- no vector statement

by_form : (form : Form) (parts simple : Type 0) → parts → simple → ByForm form parts simple
by_form forms.UnitNode parts simple p s = p
by_form forms.FunctionNode parts simple p s = p
by_form forms.BlockNode parts simple p s = p
by_form forms.IfNode parts simple p s = p
by_form forms.WhileNode parts simple p s = p
by_form forms.DoNode parts simple p s = p
by_form forms.ForNode parts simple p s = p
by_form forms.SwitchNode parts simple p s = p
by_form forms.CaseNode parts simple p s = p
by_form forms.DefaultNode parts simple p s = p
by_form forms.SimpleNode parts simple p s = s
by_form form parts simple p s = tt

part_by : (form : Form) (front declares : Bool) (declaration each : Type 0) → declaration → each →
    PartDoes form front declares declaration each
part_by forms.BlockNode front true declaration each d e = d
part_by forms.BlockNode front false declaration each d e = e
part_by forms.ForNode true declares declaration each d e = tt
part_by forms.ForNode false declares declaration each d e = e
part_by form front declares declaration each d e = e

and_false : (a b : Bool) → b ≡ false → a && b ≡ true → ⊥
and_false true b e h = false≢true (sym e ∙ h)
and_false false b e h = false≢true h

module _ (S : SettingClaim) (D : DeclaratorClaim) where
  whole_idle : (env : Env) (sites : List Place) (s : Span) (m : Mark) → NoVector m → OfWhole S D env sites s m
  whole_idle env sites s (mark t k (marking a (marking b unmarked))) h = λ e.
      absurd (and_false (is_assignment (form_of t)) (is_vector (kind_at a))
      (other_no_vector (kind_at a) (kind_other a h.2.0)) e)
  whole_idle env sites s (mark t k unmarked) h = tt
  whole_idle env sites s (mark t k (marking a unmarked)) h = tt
  whole_idle env sites s (mark t k (marking a (marking b (marking c cs)))) h = tt

  simple_idle : (env : Env) (sites : List Place) (s : Span) (ms : Marks) → AllPlain ms → OfSimple S D env sites s ms
  simple_idle env sites s unmarked h = tt
  simple_idle env sites s (marking m unmarked) h = whole_idle env sites s m h.0
  simple_idle env sites s (marking m (marking n ns)) h = tt

  declaration_idle : (env : Env) (sites : List Place) (m : Mark) → NoVector m → OfDeclaration S D env sites m
  declaration_idle env sites (mark t k unmarked) h = tt
  declaration_idle env sites (mark t k (marking type ds)) h =
      subst (λ o. OfTyped S D o env sites type ds) (sym (tree_plain type h.2.0)) tt

  mutual
    unfolding Throughout ThroughParts

    idle : (m : Mark) (env : Env) (sites : List Place) → NoVector m → Throughout S D m env sites
    idle (mark t k ms) env sites h = by_form (form_of t) _ _
        (idle_parts ms (form_of t) true (inside env (form_of t) (word_of t)) sites h.2) (simple_idle env sites _ ms h.2)

    idle_parts : (ms : Marks) (form : Form) (front : Bool) (env : Env) (sites : List Place) → AllPlain ms →
        ThroughParts S D ms form front env sites
    idle_parts unmarked form front env sites h = tt
    idle_parts (marking m ms) form front env sites h = (
      part_by form front (is_declaration m) _ _ (declaration_idle env sites m h.0) (idle m env sites h.0),
      idle_parts ms form false (behind_parts env form front (lines_for form front m))
          (parts_meant env form front sites (lines_for form front m)).sites h.1,
    )

  -- a unit without vectors
  pub vectorless_claims : (t : Syntax) (env : Env) (sites : List Place) → has_vectors t ≡ false →
      Throughout S D (marked no_names t) env sites
  vectorless_claims t env sites h = idle (marked no_names t) env sites (plain_marks t no_names h (λ q. refl))
