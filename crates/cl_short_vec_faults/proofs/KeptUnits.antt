-- Statements, functions and units of which no condition on vectors is told stay, but for declarations of vectors and
-- vector statements.
use Rattle.std.proofs.Common.{◌≡◌, ℕ, List, [], None, Bool, true, false, refl, sym, inl, inr}
use Rattle.std.proofs.Common.{◌⊎◌, if◌then◌else◌, ◌∷◌}
use Rattle.std.proofs.lemmas.Bool.{false≢true}
use Rattle.cl_tree.specs.declared.tree.Form.{Form}
use Rattle.cl_tree.specs.declared.tree.Form.TheVariants as forms
use Rattle.cl_tree.specs.Syntax.{Syntax, node, Forest, none, more}
use Rattle.cl_check_sound.specs.Shape.{IsExpressionOf, IsStatementOf, AreStatementsOf, AreLinesOf, IsDeclarationOf}
use Rattle.cl_check_sound.specs.Shape.{IsSimpleOf, IsOptionalOf, IsBlockOf, IsDefinitionOf, IsAnnouncement}
use Rattle.cl_check_sound.specs.Shape.{BehindHeadsOf, IsHeadOf, IsResult, IsParams, IsFunctionOf, IsPrototypeOf}
use Rattle.cl_check_sound.specs.Shape.{AreItemsOf, IsUnitOf}
use Rattle.cl_short_vec.specs.declared.kinds.Kind.{Kind}
use Rattle.cl_short_vec.specs.declared.kinds.Kind.TheVariants.{Other}
use Rattle.cl_short_vec.specs.declared.roles.Role.{Role}
use Rattle.cl_short_vec.specs.declared.roles.Role.TheVariants.{Free, Whole, Head, Outer}
use Rattle.cl_short_vec.specs.declared.refuse.VectorRefusal.{VectorRefusal}
use Rattle.cl_short_vec.specs.Kinds.{Names, no_names, later, is_vector}
use Rattle.cl_short_vec.specs.Plain.{has_vectors}
use Rattle.cl_short_vec.specs.Marks.{mark, Marks, unmarked, marking, kind_at, kind_by, marked, marked_parts}
use Rattle.cl_short_vec.specs.Roles.{role_of}
use Rattle.cl_short_vec.specs.Faults.{refusals, told}
use Rattle.cl_short_vec.specs.Scalar.{scalar, scalars}
use Rattle.cl_short_vec.specs.Unit.{scalarised, all_scalarised, block_lines, loop_parts, block_line}
use Rattle.cl_short_vec_faults.specs.Law.{is_of_vectors}
use Rattle.cl_short_vec_faults.proofs.Refused.{parts_stay, part_none, kind_placed}
use Rattle.cl_short_vec_faults.proofs.Refused as refused
use Rattle.cl_short_vec_faults.specs.Kept.{Stays, AllStay, StaysTree, AllStayTrees, LinesStay, LoopStays, sets_whole}
use Rattle.cl_short_vec_faults.specs.KeptLaw.{FormsKeep}
use Rattle.cl_short_vec_faults.proofs.KeptExpressions.{expression_stays}
use Rattle.cl_short_vec_faults.proofs.KeptCounted.{node_stays}
use Rattle.cl_short_vec_faults.proofs.KeptStatements.{simple_stays, line_stays}
use Rattle.cl_short_vec_faults.proofs.KeptNodes.{EachNone, each_none, free_stays, optional_stays}
use Rattle.cl_short_vec_faults.proofs.KeptNodes.{declaration_tree, result_stays, params_stay, head_stays}

-- ---- expressions as parts of statements

expression_tree : (names : Names) (t : Syntax) → IsExpressionOf true t → refusals Free (marked names t) ≡ [] →
    StaysTree (marked names t) (scalarised (marked names t))
unfolding scalarised marked
expression_tree names (node forms.UnitNode w f l ps) h r = absurd h
expression_tree names (node forms.FunctionNode w f l ps) h r = absurd h
expression_tree names (node forms.BlockNode w f l ps) h r = absurd h
expression_tree names (node forms.IfNode w f l ps) h r = absurd h
expression_tree names (node forms.WhileNode w f l ps) h r = absurd h
expression_tree names (node forms.DoNode w f l ps) h r = absurd h
expression_tree names (node forms.ForNode w f l ps) h r = absurd h
expression_tree names (node forms.SwitchNode w f l ps) h r = absurd h
expression_tree names (node forms.CaseNode w f l ps) h r = absurd h
expression_tree names (node forms.DefaultNode w f l ps) h r = absurd h
expression_tree names (node forms.SimpleNode w f l ps) h r = absurd h
expression_tree names (node forms.DeclareNode w f l ps) h r = absurd h
expression_tree names (node form w f l ps) h r = free_stays names (node form w f l ps) h r

-- ---- simple statements

assigns_none : (names : Names) (t : Syntax) → IsExpressionOf true t → sets_whole (marking (marked names t) unmarked) ≡
    false → is_vector (kind_at (marked names t)) ≡ false → is_of_vectors Whole (marked names t) ≡ false
unfolding marked marked_parts
assigns_none names (node forms.AssignNode w f l none) h e v = absurd h
assigns_none names (node forms.AssignNode w f l (more a none)) h e v = absurd h
assigns_none names (node forms.AssignNode w f l (more a (more b none))) h e v = rw v e
assigns_none names (node forms.AssignNode w f l (more a (more b (more c cs)))) h e v = absurd h
assigns_none names (node form w f l ps) h e v = rw v refl

simple_parts : (names : Names) (w : List ℕ) (f l : ℕ) (ps : Forest) → IsOptionalOf true ps →
    refusals Free (marked names (node forms.SimpleNode w f l ps)) ≡ [] →
    sets_whole (marked_parts forms.SimpleNode ps names true ps) ≡ false →
    AllStay (marked_parts forms.SimpleNode ps names true ps)
    (scalars (marked_parts forms.SimpleNode ps names true ps))
unfolding marked marked_parts scalars role_of kind_by
simple_parts names w f l none h r e = tt
simple_parts names w f l (more a none) h r e =
    let q = part_none Free (node forms.SimpleNode w f l (more a none)) (Other true) (marked names a) r in
    (expression_stays names Whole a h q (assigns_none names a h e (kind_placed Whole a names h q)), tt)
simple_parts names w f l (more a (more b bs)) h r e = absurd h

simple_tree : (names : Names) (w : List ℕ) (f l : ℕ) (ps : Forest) → IsOptionalOf true ps →
    refusals Free (marked names (node forms.SimpleNode w f l ps)) ≡ [] →
    StaysTree (marked names (node forms.SimpleNode w f l ps)) (scalarised (marked names (node forms.SimpleNode w f l
    ps)))
unfolding marked scalarised kind_by
simple_tree names w f l ps h r =
    let t = node forms.SimpleNode w f l ps in
    let ms = marked_parts forms.SimpleNode ps names true ps in
    simple_stays t (Other true) ms (scalar (mark t (Other true) ms))
    (λ e. node_stays forms.SimpleNode w f l ps (Other true) ms refl (simple_parts names w f l ps h r e))

-- in the head of a `for`
head_simple : (names : Names) (w : List ℕ) (f l : ℕ) (ps : Forest) → IsOptionalOf true ps →
    refusals Head (marked names (node forms.SimpleNode w f l ps)) ≡ [] →
    Stays (marked names (node forms.SimpleNode w f l ps)) (scalar (marked names (node forms.SimpleNode w f l ps)))
unfolding marked kind_by role_of
head_simple names w f l ps h r =
    let t = node forms.SimpleNode w f l ps in
    let ms = marked_parts forms.SimpleNode ps names true ps in
    node_stays forms.SimpleNode w f l ps (Other true) ms refl (optional_stays forms.SimpleNode ps names ps h
    (parts_stay Head t (Other true) ms (λ x y p. refl) r))

return_tree : (names : Names) (w : List ℕ) (f l : ℕ) (ps : Forest) → IsOptionalOf true ps →
    refusals Free (marked names (node forms.ReturnNode w f l ps)) ≡ [] →
    StaysTree (marked names (node forms.ReturnNode w f l ps)) (scalarised (marked names (node forms.ReturnNode w f l
    ps)))
unfolding marked scalarised kind_by role_of
return_tree names w f l ps h r =
    let t = node forms.ReturnNode w f l ps in
    let ms = marked_parts forms.ReturnNode ps names true ps in
    node_stays forms.ReturnNode w f l ps (Other true) ms refl (optional_stays forms.ReturnNode ps names ps h
    (parts_stay Free t (Other true) ms (λ x y p. refl) r))

-- ---- the parts of statements

abbrev Mixed : Forest → Type 0
Mixed none = Unit {0}
Mixed (more p ps) = (IsExpressionOf true p ⊎ IsStatementOf true p) × Mixed ps

abbrev Looped : Forest → Type 0
Looped none = ⊥
Looped (more i ps) = (IsDeclarationOf true i ⊎ IsSimpleOf true i) × Mixed ps

all_mixed : (ps : Forest) → AreStatementsOf true ps → Mixed ps
all_mixed none h = tt
all_mixed (more p ps) h = (inr h.0, all_mixed ps h.1)

if_parts : (w : List ℕ) (f l : ℕ) (ps : Forest) → IsStatementOf true (node forms.IfNode w f l ps) → Mixed ps
if_parts w f l (more c (more s none)) h = (inl h.0, (inr h.1, tt))
if_parts w f l (more c (more s (more u none))) h = (inl h.0, (inr h.1, (inr h.2, tt)))
if_parts w f l ps h = absurd h

while_parts : (w : List ℕ) (f l : ℕ) (ps : Forest) → IsStatementOf true (node forms.WhileNode w f l ps) → Mixed ps
while_parts w f l (more c (more s none)) h = (inl h.0, (inr h.1, tt))
while_parts w f l ps h = absurd h

do_parts : (w : List ℕ) (f l : ℕ) (ps : Forest) → IsStatementOf true (node forms.DoNode w f l ps) → Mixed ps
do_parts w f l (more s (more c none)) h = (inr h.0, (inl h.1, tt))
do_parts w f l ps h = absurd h

switch_parts : (w : List ℕ) (f l : ℕ) (ps : Forest) → IsStatementOf true (node forms.SwitchNode w f l ps) → Mixed ps
switch_parts w f l (more v ss) h = (inl h.0, all_mixed ss h.1)
switch_parts w f l ps h = absurd h

case_parts : (w : List ℕ) (f l : ℕ) (ps : Forest) → IsStatementOf true (node forms.CaseNode w f l ps) → Mixed ps
case_parts w f l (more v (more s none)) h = (inl h.0, (inr h.1, tt))
case_parts w f l ps h = absurd h

default_parts : (w : List ℕ) (f l : ℕ) (ps : Forest) → IsStatementOf true (node forms.DefaultNode w f l ps) → Mixed ps
default_parts w f l (more s none) h = (inr h, tt)
default_parts w f l ps h = absurd h

for_parts : (w : List ℕ) (f l : ℕ) (ps : Forest) → IsStatementOf true (node forms.ForNode w f l ps) → Looped ps
for_parts w f l (more i (more s none)) h = (h.0, (inr h.1, tt))
for_parts w f l (more i (more c (more s none))) h = (h.0, (inl h.1, (inr h.2, tt)))
for_parts w f l (more i (more c (more e (more s none)))) h = (h.0, (inl h.1, (inl h.2, (inr h.3, tt))))
for_parts w f l ps h = absurd h

-- behind the first part of a `for`
for_rest : (role : Role) (w : List ℕ) (f l : ℕ) (qs : Forest) (k : Kind) (ns ms : Marks) →
    EachNone role (mark (node forms.ForNode w f l qs) k ns) false ms → refused.AllStay ms
unfolding role_of
for_rest role w f l qs k ns unmarked h = tt
for_rest role w f l qs k ns (marking m ms) h = (h.0, for_rest role w f l qs k ns ms h.1)

-- the first part
first_stays : (names : Names) (t : Syntax) → IsDeclarationOf true t ⊎ IsSimpleOf true t →
    refusals Head (marked names t) ≡ [] → LoopStays (marking (marked names t) unmarked) (loop_parts (marking (marked
    names t) unmarked))
unfolding marked loop_parts all_scalarised
first_stays names (node forms.DeclareNode w f l ps) (inl h) r =
    (inl (refl, declaration_tree names Head (node forms.DeclareNode w f l ps) h r), tt)
first_stays names (node forms.SimpleNode w f l ps) (inr h) r = (inr (refl, head_simple names w f l ps h r), tt)
first_stays names t (inl h) r = absurd h
first_stays names t (inr h) r = absurd h

mutual
  unfolding marked marked_parts kind_by role_of scalars scalarised all_scalarised block_lines loop_parts

  statement_tree : (names : Names) (t : Syntax) → IsStatementOf true t → refusals Free (marked names t) ≡ [] →
      StaysTree (marked names t) (scalarised (marked names t))
  statement_tree names (node forms.BlockNode w f l ps) h r =
      let ms = marked_parts forms.BlockNode ps names true ps in (
        block_lines ms,
        refl,
        lines_stay ps names true ps h
            (parts_stay Free (node forms.BlockNode w f l ps) (Other true) ms (λ x y p. refl) r),
      )
  statement_tree names (node forms.SimpleNode w f l ps) h r = simple_tree names w f l ps h r
  statement_tree names (node forms.IfNode w f l ps) h r =
      let ms = marked_parts forms.IfNode ps names true ps in (
        all_scalarised ms,
        refl,
        trees_stay forms.IfNode ps names true ps (if_parts w f l ps h)
            (parts_stay Free (node forms.IfNode w f l ps) (Other true) ms (λ x y p. refl) r),
      )
  statement_tree names (node forms.WhileNode w f l ps) h r =
      let ms = marked_parts forms.WhileNode ps names true ps in (
        all_scalarised ms,
        refl,
        trees_stay forms.WhileNode ps names true ps (while_parts w f l ps h)
            (parts_stay Free (node forms.WhileNode w f l ps) (Other true) ms (λ x y p. refl) r),
      )
  statement_tree names (node forms.DoNode w f l ps) h r =
      let ms = marked_parts forms.DoNode ps names true ps in (
        all_scalarised ms,
        refl,
        trees_stay forms.DoNode ps names true ps (do_parts w f l ps h)
            (parts_stay Free (node forms.DoNode w f l ps) (Other true) ms (λ x y p. refl) r),
      )
  statement_tree names (node forms.ForNode w f l ps) h r =
      let ms = marked_parts forms.ForNode ps names true ps in (
        loop_parts ms,
        refl,
        loop_stays w f l ps (Other true) ms ps names ps (for_parts w f l ps h)
            (each_none Free (node forms.ForNode w f l ps) (Other true) ms r),
      )
  statement_tree names (node forms.SwitchNode w f l ps) h r =
      let ms = marked_parts forms.SwitchNode ps names true ps in (
        all_scalarised ms,
        refl,
        trees_stay forms.SwitchNode ps names true ps (switch_parts w f l ps h)
            (parts_stay Free (node forms.SwitchNode w f l ps) (Other true) ms (λ x y p. refl) r),
      )
  statement_tree names (node forms.CaseNode w f l ps) h r =
      let ms = marked_parts forms.CaseNode ps names true ps in (
        all_scalarised ms,
        refl,
        trees_stay forms.CaseNode ps names true ps (case_parts w f l ps h)
            (parts_stay Free (node forms.CaseNode w f l ps) (Other true) ms (λ x y p. refl) r),
      )
  statement_tree names (node forms.DefaultNode w f l ps) h r =
      let ms = marked_parts forms.DefaultNode ps names true ps in (
        all_scalarised ms,
        refl,
        trees_stay forms.DefaultNode ps names true ps (default_parts w f l ps h)
            (parts_stay Free (node forms.DefaultNode w f l ps) (Other true) ms (λ x y p. refl) r),
      )
  statement_tree names (node forms.BreakNode w f l none) h r =
      node_stays forms.BreakNode w f l none (Other true) unmarked refl tt
  statement_tree names (node forms.ContinueNode w f l none) h r =
      node_stays forms.ContinueNode w f l none (Other true) unmarked refl tt
  statement_tree names (node forms.ReturnNode w f l ps) h r = return_tree names w f l ps h r
  statement_tree names t h r = absurd h

  trees_stay : (form : Form) (all : Forest) (names : Names) (front : Bool) (ps : Forest) → Mixed ps →
      refused.AllStay (marked_parts form all names front ps) →
      AllStayTrees (marked_parts form all names front ps) (all_scalarised (marked_parts form all names front ps))
  trees_stay form all names front none h st = tt
  trees_stay form all names front (more p ps) (inl e, h) st =
      (expression_tree names p e st.0, trees_stay form all (later form all names front p) false ps h st.1)
  trees_stay form all names front (more p ps) (inr e, h) st =
      (statement_tree names p e st.0, trees_stay form all (later form all names front p) false ps h st.1)

  lines_stay : (all : Forest) (names : Names) (front : Bool) (ps : Forest) → AreLinesOf true ps →
      refused.AllStay (marked_parts forms.BlockNode all names front ps) →
      LinesStay (marked_parts forms.BlockNode all names front ps)
      (block_lines (marked_parts forms.BlockNode all names front ps))
  lines_stay all names front none h st = refl
  lines_stay all names front (more p ps) (inl e, h) st =
      let m = marked names p in
      let names' = later forms.BlockNode all names front p in (
        block_line m (scalarised m),
        block_lines (marked_parts forms.BlockNode all names' false ps),
        refl,
        line_stays m (declaration_tree names Free p e st.0),
        lines_stay all names' false ps h st.1,
      )
  lines_stay all names front (more p ps) (inr e, h) st =
      let m = marked names p in
      let names' = later forms.BlockNode all names front p in (
        block_line m (scalarised m),
        block_lines (marked_parts forms.BlockNode all names' false ps),
        refl,
        line_stays m (statement_tree names p e st.0),
        lines_stay all names' false ps h st.1,
      )

  loop_stays : (w : List ℕ) (f l : ℕ) (qs : Forest) (k : Kind) (ns : Marks) (all : Forest) (names : Names)
      (ps : Forest) → Looped ps →
      EachNone Free (mark (node forms.ForNode w f l qs) k ns) true (marked_parts forms.ForNode all names true ps) →
      LoopStays (marked_parts forms.ForNode all names true ps)
      (loop_parts (marked_parts forms.ForNode all names true ps))
  loop_stays w f l qs k ns all names none h st = absurd h
  loop_stays w f l qs k ns all names (more i ps) h st =
      let names' = later forms.ForNode all names true i in (
        (first_stays names i h.0 st.0).0,
        trees_stay forms.ForNode all names' false ps h.1
            (for_rest Free w f l qs k ns (marked_parts forms.ForNode all names' false ps) st.1),
      )

-- ---- functions and prototypes

head_tree : (names : Names) (t : Syntax) → IsHeadOf true t → refusals Free (marked names t) ≡ [] →
    StaysTree (marked names t) (scalarised (marked names t))
unfolding marked scalarised
head_tree names (node forms.HeadNode w f l ps) h r = head_stays names (node forms.HeadNode w f l ps) h r
head_tree names t h r = absurd h

result_tree : (names : Names) (t : Syntax) → IsResult t → StaysTree (marked names t) (scalarised (marked names t))
unfolding marked scalarised
result_tree names (node forms.ResultNode w f l ps) h = result_stays names (node forms.ResultNode w f l ps) h
result_tree names t h = absurd h

params_tree : (names : Names) (t : Syntax) → IsParams t → StaysTree (marked names t) (scalarised (marked names t))
unfolding marked scalarised
params_tree names (node forms.ParamsNode w f l ps) h = params_stay names (node forms.ParamsNode w f l ps) h
params_tree names t h = absurd h

block_tree : (names : Names) (t : Syntax) → IsBlockOf true t → refusals Free (marked names t) ≡ [] →
    StaysTree (marked names t) (scalarised (marked names t))
block_tree names (node forms.BlockNode w f l ps) h r = statement_tree names (node forms.BlockNode w f l ps) h r
block_tree names t h r = absurd h

definition_stays : (all : Forest) (names : Names) (front : Bool) (ps : Forest) → IsDefinitionOf true ps →
    refused.AllStay (marked_parts forms.FunctionNode all names front ps) →
    AllStayTrees (marked_parts forms.FunctionNode all names front ps)
    (all_scalarised (marked_parts forms.FunctionNode all names front ps))
unfolding marked_parts all_scalarised
definition_stays all names front (more r (more p (more b none))) h st =
    let n = later forms.FunctionNode all names front r in (
      result_tree names r h.0,
      (
        params_tree n p h.1,
        (block_tree (later forms.FunctionNode all n false p) b h.2 st.1.1.0, tt),
      ),
    )
definition_stays all names front ps h st = absurd h

function_parts : (all : Forest) (names : Names) (front : Bool) (ps : Forest) →
    BehindHeadsOf true (IsDefinitionOf true) ps →
    refused.AllStay (marked_parts forms.FunctionNode all names front ps) →
    AllStayTrees (marked_parts forms.FunctionNode all names front ps)
    (all_scalarised (marked_parts forms.FunctionNode all names front ps))
unfolding marked_parts all_scalarised
function_parts all names front none h st = absurd h
function_parts all names front (more (node form w f l qs) ps) (inl h) st =
    let p = node form w f l qs in
    (head_tree names p h.0 st.0, function_parts all (later forms.FunctionNode all names front p) false ps h.1 st.1)
function_parts all names front (more (node form w f l qs) ps) (inr h) st =
    definition_stays all names front (more (node form w f l qs) ps) h st

function_tree : (names : Names) (t : Syntax) → IsFunctionOf true t → refusals Outer (marked names t) ≡ [] →
    StaysTree (marked names t) (scalarised (marked names t))
unfolding marked kind_by role_of scalarised
function_tree names (node forms.FunctionNode w f l ps) h r =
    let ms = marked_parts forms.FunctionNode ps names true ps in (
      all_scalarised ms,
      refl,
      function_parts ps names true ps h
          (parts_stay Outer (node forms.FunctionNode w f l ps) (Other true) ms (λ x y p. refl) r),
    )
function_tree names t h r = absurd h

announcement_stays : (all : Forest) (names : Names) (front : Bool) (ps : Forest) → IsAnnouncement ps →
    AllStay (marked_parts forms.PrototypeNode all names front ps)
    (scalars (marked_parts forms.PrototypeNode all names front ps))
unfolding marked_parts scalars
announcement_stays all names front (more r (more p none)) h =
    (result_stays names r h.0, (params_stay (later forms.PrototypeNode all names front r) p h.1, tt))
announcement_stays all names front ps h = absurd h

prototype_parts : (all : Forest) (names : Names) (front : Bool) (ps : Forest) →
    BehindHeadsOf true IsAnnouncement ps → refused.AllStay (marked_parts forms.PrototypeNode all names front ps) →
    AllStay (marked_parts forms.PrototypeNode all names front ps)
    (scalars (marked_parts forms.PrototypeNode all names front ps))
unfolding marked_parts scalars
prototype_parts all names front none h st = absurd h
prototype_parts all names front (more (node form w f l qs) ps) (inl h) st =
    let p = node form w f l qs in
    (head_stays names p h.0 st.0, prototype_parts all (later forms.PrototypeNode all names front p) false ps h.1 st.1)
prototype_parts all names front (more (node form w f l qs) ps) (inr h) st =
    announcement_stays all names front (more (node form w f l qs) ps) h

prototype_tree : (names : Names) (t : Syntax) → IsPrototypeOf true t → refusals Outer (marked names t) ≡ [] →
    StaysTree (marked names t) (scalarised (marked names t))
unfolding marked kind_by role_of scalarised
prototype_tree names (node forms.PrototypeNode w f l ps) h r =
    let ms = marked_parts forms.PrototypeNode ps names true ps in
    node_stays forms.PrototypeNode w f l ps (Other true) ms refl (prototype_parts ps names true ps h
    (parts_stay Outer (node forms.PrototypeNode w f l ps) (Other true) ms (λ x y p. refl) r))
prototype_tree names t h r = absurd h

-- ---- units

item_tree : (names : Names) (t : Syntax) → IsFunctionOf true t ⊎ (IsPrototypeOf true t ⊎ IsDeclarationOf true t) →
    refusals Outer (marked names t) ≡ [] → StaysTree (marked names t) (scalarised (marked names t))
item_tree names t (inl h) r = function_tree names t h r
item_tree names t (inr (inl h)) r = prototype_tree names t h r
item_tree names t (inr (inr h)) r = declaration_tree names Outer t h r

items_stay : (w : List ℕ) (f l : ℕ) (qs : Forest) (k : Kind) (ns : Marks) (all : Forest) (names : Names)
    (front : Bool) (ps : Forest) → AreItemsOf true ps →
    EachNone Free (mark (node forms.UnitNode w f l qs) k ns) front (marked_parts forms.UnitNode all names front ps) →
    AllStayTrees (marked_parts forms.UnitNode all names front ps)
    (all_scalarised (marked_parts forms.UnitNode all names front ps))
unfolding marked_parts all_scalarised role_of
items_stay w f l qs k ns all names front none h st = tt
items_stay w f l qs k ns all names front (more p ps) h st = (
  item_tree names p h.0 st.0,
  items_stay w f l qs k ns all (later forms.UnitNode all names front p) false ps h.1 st.1,
)

unit_tree : (names : Names) (t : Syntax) → IsUnitOf true t → refusals Free (marked names t) ≡ [] →
    StaysTree (marked names t) (scalarised (marked names t))
unfolding marked kind_by scalarised
unit_tree names (node forms.UnitNode w f l ps) h r =
    let ms = marked_parts forms.UnitNode ps names true ps in (
      all_scalarised ms,
      refl,
      items_stay w f l ps (Other true) ms ps names true ps h
          (each_none Free (node forms.UnitNode w f l ps) (Other true) ms r),
    )
unit_tree names t h r = absurd h

told_none : (rs : List VectorRefusal) → told rs ≡ None → rs ≡ []
told_none [] h = refl
told_none (r ∷ rs) h = absurd cc

pub forms_keep : FormsKeep
forms_keep unit h r = (without (has_vectors unit), found (has_vectors unit) r)
  where
    without : (b : Bool) → b ≡ false → (if b then scalarised (marked no_names unit) else unit) ≡ unit
    without true e = absurd (false≢true (sym e))
    without false e = refl

    found : (b : Bool) → (if b then told (refusals Free (marked no_names unit)) else None) ≡ None → b ≡ true →
        StaysTree (marked no_names unit) (if b then scalarised (marked no_names unit) else unit)
    found true q e = unit_tree no_names unit h (told_none (refusals Free (marked no_names unit)) q)
    found false q e = absurd (false≢true e)
