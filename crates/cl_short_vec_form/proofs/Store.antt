-- What stands for a unit declares the arrays and the variables of a work-group that the unit declares.
use Rattle.std.proofs.Common.{◌≡◌, ℕ, List, [], ◌++◌, Option, None, Bool, true, false, if◌then◌else◌}
use Rattle.std.proofs.Common.{refl, sym, ap, ◌∙◌}
use Rattle.wg_num.specs.declared.types.Bin.{Bin}
use Rattle.cl_tree.specs.declared.tree.Form.{Form}
use Rattle.cl_tree.specs.declared.tree.Form.TheVariants as forms
use Rattle.cl_tree.specs.Syntax.{Syntax, node, Forest, none, more}
use Rattle.cl_meaning.specs.Spelling.{setting_in}
use Rattle.cl_meaning.specs.Declarations.{form_of}
use Rattle.cl_short_vec.specs.declared.nodes.Span.{Span}
use Rattle.cl_short_vec.specs.declared.roles.Role.{Role}
use Rattle.cl_short_vec.specs.declared.roles.Role.TheVariants.{Free}
use Rattle.cl_short_vec.specs.Kinds.{Names, no_names, later, is_vector}
use Rattle.cl_short_vec.specs.Plain.{has_vectors}
use Rattle.cl_short_vec.specs.Marks.{tree_at, kind_at, marked, marked_parts}
use Rattle.cl_short_vec.specs.Faults.{refusals, told}
use Rattle.cl_short_vec.specs.Order.{operator_in, setting_steps}
use Rattle.cl_short_vec.specs.Nodes.{span_of}
use Rattle.cl_short_vec.specs.Scalar.{scalar}
use Rattle.cl_short_vec.specs.Unit.{assigned_of, set_block, whole_by, simple_at}
use Rattle.cl_short_vec.specs.Unit.{is_declaration, block_line, scalarised, all_scalarised, block_lines, loop_parts}
use Rattle.cl_short_vec_form.specs.Stored.{stored, all_stored}
use Rattle.cl_short_vec_form.specs.Law.{FormsStore}
use Rattle.cl_short_vec_form.proofs.Neat.{Neat, AreNeat, Starts, Tidy, AreTidy, neat_parts, unit_tidy}
use Rattle.cl_short_vec_form.proofs.Calm.{calm_stored}
use Rattle.cl_short_vec_form.proofs.Scalars.{scalar_calm}
use Rattle.cl_short_vec_form.proofs.Steps.{setting_calm}
use Rattle.cl_short_vec_form.proofs.Unrefused.{none_told, NoneRefused, parts_unrefused}
use Rattle.cl_short_vec_form.proofs.Unstored.{lines_stored}
use Rattle.cl_short_vec_form.proofs.StoredDeclarations.{append_nothing, all_joined, declaration_stored}
use Rattle.cl_short_vec_form.proofs.StoredDeclarations.{declaration_lines_stored}

-- ---- trees without declarations

-- among whose nodes none declares
inner_stored : (form : Form) (w : List ℕ) (f l : ℕ) (ps : Forest) → Neat (node form w f l ps) → all_stored ps ≡ [] →
    stored (node form w f l ps) ≡ []
unfolding stored
inner_stored forms.DeclareNode w f l ps h e = absurd h
inner_stored form w f l ps h e = e

mutual
  unfolding stored all_stored

  neat_stored : (t : Syntax) → Neat t → stored t ≡ []
  neat_stored (node form w f l ps) h = inner_stored form w f l ps h (neat_parts_stored ps (neat_parts form w f l ps h))

  neat_parts_stored : (ps : Forest) → AreNeat ps → all_stored ps ≡ []
  neat_parts_stored none h = refl
  neat_parts_stored (more p ps) h =
      ap (λ z. z ++ all_stored ps) (neat_stored p h.0) ∙ neat_parts_stored ps h.1

-- what stands for one, and itself
neat_same : (t : Syntax) (names : Names) → Neat t → stored (scalar (marked names t)) ≡ stored t
neat_same t names h = calm_stored (scalar (marked names t)) (scalar_calm t names h) ∙ sym (neat_stored t h)

-- ---- simple statements

block_stored : (s : Span) (o : Option Bin) (a b : Syntax) (names after : Names) → Neat a → Neat b →
    stored (set_block s o (marked names a) (marked after b)) ≡ []
unfolding stored
block_stored s o a b names after h k =
    lines_stored None (assigned_of o (marked names a) (marked after b))
    (setting_steps o (marked names a) (marked after b)) tt (setting_calm o a b names after h k)

either_stored : (z : Bool) (s t : Syntax) → stored s ≡ [] → stored t ≡ [] → stored (if z then s else t) ≡ []
either_stored true s t h k = h
either_stored false s t h k = k

whole_stored : (s : Span) (t : Syntax) (names : Names) (plain : Syntax) → Neat t → stored plain ≡ [] →
    stored (whole_by (form_of (tree_at (marked names t))) s (marked names t) plain) ≡ []
unfolding marked marked_parts
whole_stored s (node forms.AssignNode w f l none) names plain h k = k
whole_stored s (node forms.AssignNode w f l (more a none)) names plain h k = k
whole_stored s (node forms.AssignNode w f l (more a (more b none))) names plain h k =
    let n = later forms.AssignNode (more a (more b none)) names true a in
    either_stored (is_vector (kind_at (marked names a)))
    (set_block s (operator_in (setting_in w)) (marked names a) (marked n b)) plain
    (block_stored s (operator_in (setting_in w)) a b names n h.0 h.1.0) k
whole_stored s (node forms.AssignNode w f l (more a (more b (more c cs)))) names plain h k = k
whole_stored s (node form w f l ps) names plain h k = k

simple_stored : (w : List ℕ) (f l : ℕ) (ps : Forest) (names : Names) → AreNeat ps →
    stored (simple_at (node forms.SimpleNode w f l ps) (marked_parts forms.SimpleNode ps names true ps)
    (scalar (marked names (node forms.SimpleNode w f l ps)))) ≡ []
unfolding marked_parts
simple_stored w f l none names h = calm_stored (scalar (marked names (node forms.SimpleNode w f l none)))
    (scalar_calm (node forms.SimpleNode w f l none) names h)
simple_stored w f l (more a none) names h =
    let t = node forms.SimpleNode w f l (more a none) in
    whole_stored (span_of t) a names (scalar (marked names t)) h.0
    (calm_stored (scalar (marked names t)) (scalar_calm t names h))
simple_stored w f l (more a (more b bs)) names h =
    let t = node forms.SimpleNode w f l (more a (more b bs)) in
    calm_stored (scalar (marked names t)) (scalar_calm t names h)

-- ---- lines

line_stored : (role : Role) (t : Syntax) (names : Names) → Tidy t → refusals role (marked names t) ≡ [] →
    stored (scalarised (marked names t)) ≡ stored t →
    all_stored (block_line (marked names t) (scalarised (marked names t))) ≡ stored t
unfolding all_stored marked marked_parts
line_stored role (node forms.DeclareNode w f l ps) names h r e = declaration_lines_stored role w f l ps names h r
line_stored role (node form w f l ps) names h r e =
    append_nothing (stored (scalarised (marked names (node form w f l ps)))) ∙ e

-- in front of a `for`
start_stored : (role : Role) (t : Syntax) (names : Names) → Starts t → refusals role (marked names t) ≡ [] →
    stored (if is_declaration (marked names t) then scalarised (marked names t) else scalar (marked names t)) ≡ stored t
unfolding scalarised marked
start_stored role (node forms.DeclareNode w f l ps) names h r = declaration_stored role w f l ps names h r
start_stored role (node form w f l ps) names h r = neat_same (node form w f l ps) names h

-- ---- statements, functions and units

mutual
  unfolding stored all_stored scalarised all_scalarised block_lines loop_parts marked marked_parts

  tree_stored : (t : Syntax) (names : Names) (role : Role) → Tidy t → refusals role (marked names t) ≡ [] →
      stored (scalarised (marked names t)) ≡ stored t
  tree_stored (node forms.UnitNode w f l ps) names role h r =
      trees_stored forms.UnitNode ps names true ps h
      (parts_unrefused role (marked names (node forms.UnitNode w f l ps)) r)
  tree_stored (node forms.FunctionNode w f l ps) names role h r =
      trees_stored forms.FunctionNode ps names true ps h
      (parts_unrefused role (marked names (node forms.FunctionNode w f l ps)) r)
  tree_stored (node forms.BlockNode w f l ps) names role h r =
      lines_same forms.BlockNode ps names true ps h
      (parts_unrefused role (marked names (node forms.BlockNode w f l ps)) r)
  tree_stored (node forms.IfNode w f l ps) names role h r =
      trees_stored forms.IfNode ps names true ps h
      (parts_unrefused role (marked names (node forms.IfNode w f l ps)) r)
  tree_stored (node forms.WhileNode w f l ps) names role h r =
      trees_stored forms.WhileNode ps names true ps h
      (parts_unrefused role (marked names (node forms.WhileNode w f l ps)) r)
  tree_stored (node forms.DoNode w f l ps) names role h r =
      trees_stored forms.DoNode ps names true ps h
      (parts_unrefused role (marked names (node forms.DoNode w f l ps)) r)
  tree_stored (node forms.ForNode w f l none) names role h r = refl
  tree_stored (node forms.ForNode w f l (more i ps)) names role h r =
      let n = later forms.ForNode (more i ps) names true i in
      let x = parts_unrefused role (marked names (node forms.ForNode w f l (more i ps))) r in
      ap (λ z. z ++ all_stored (all_scalarised (marked_parts forms.ForNode (more i ps) n false ps)))
      (start_stored x.0.0 i names h.0 x.0.1) ∙
      ap (λ z. stored i ++ z) (trees_stored forms.ForNode (more i ps) n false ps h.1 x.1)
  tree_stored (node forms.SwitchNode w f l ps) names role h r =
      trees_stored forms.SwitchNode ps names true ps h
      (parts_unrefused role (marked names (node forms.SwitchNode w f l ps)) r)
  tree_stored (node forms.CaseNode w f l ps) names role h r =
      trees_stored forms.CaseNode ps names true ps h
      (parts_unrefused role (marked names (node forms.CaseNode w f l ps)) r)
  tree_stored (node forms.DefaultNode w f l ps) names role h r =
      trees_stored forms.DefaultNode ps names true ps h
      (parts_unrefused role (marked names (node forms.DefaultNode w f l ps)) r)
  tree_stored (node forms.SimpleNode w f l ps) names role h r =
      simple_stored w f l ps names h ∙ sym (neat_parts_stored ps h)
  tree_stored (node forms.DeclareNode w f l ps) names role h r = declaration_stored role w f l ps names h r
  tree_stored (node form w f l ps) names role h r = neat_same (node form w f l ps) names h

  trees_stored : (form : Form) (all : Forest) (names : Names) (front : Bool) (ps : Forest) → AreTidy ps →
      NoneRefused (marked_parts form all names front ps) →
      all_stored (all_scalarised (marked_parts form all names front ps)) ≡ all_stored ps
  trees_stored form all names front none h r = refl
  trees_stored form all names front (more p ps) h r =
      let n = later form all names front p in
      ap (λ z. z ++ all_stored (all_scalarised (marked_parts form all n false ps)))
      (tree_stored p names r.0.0 h.0 r.0.1) ∙
      ap (λ z. stored p ++ z) (trees_stored form all n false ps h.1 r.1)

  lines_same : (form : Form) (all : Forest) (names : Names) (front : Bool) (ps : Forest) → AreTidy ps →
      NoneRefused (marked_parts form all names front ps) →
      all_stored (block_lines (marked_parts form all names front ps)) ≡ all_stored ps
  lines_same form all names front none h r = refl
  lines_same form all names front (more p ps) h r =
      let n = later form all names front p in
      let these = block_line (marked names p) (scalarised (marked names p)) in
      let others = block_lines (marked_parts form all n false ps) in
      all_joined these others ∙
      (ap (λ z. z ++ all_stored others)
      (line_stored r.0.0 p names h.0 r.0.1 (tree_stored p names r.0.0 h.0 r.0.1)) ∙
      ap (λ z. stored p ++ z) (lines_same form all n false ps h.1 r.1))

pub forms_store : FormsStore
forms_store unit h r = by (has_vectors unit) refl r
  where
    by : (b : Bool) → has_vectors unit ≡ b →
        (if b then told (refusals Free (marked no_names unit)) else None) ≡ None →
        stored (if b then scalarised (marked no_names unit) else unit) ≡ stored unit
    by true e r = tree_stored unit no_names Free (unit_tidy unit h)
        (none_told (refusals Free (marked no_names unit)) r)
    by false e r = refl
