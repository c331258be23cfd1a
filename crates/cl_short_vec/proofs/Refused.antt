-- Worked examples, computed: what is told of small units. The trees are those that the grammar gives the texts above.
use Rattle.std.proofs.Common.{◌≡◌, ℕ, List, Some, None, codes, refl}
use Rattle.cl_tree.specs.declared.tree.Form.{Form}
use Rattle.cl_tree.specs.declared.tree.Form.TheVariants as forms
use Rattle.cl_tree.specs.Syntax.{Syntax, node, Forest, none, more}
use Rattle.cl_meaning.specs.Names.{intrinsic_in}
use Rattle.cl_meaning.specs.Operators.{binary_in, setting_in, prefix_in, postfix_in}
use Rattle.cl_meaning.specs.Types.{names_outside, base_in, space_in}
use Rattle.cl_short_vec.specs.declared.refuse.VectorFault.{VectorFault}
use Rattle.cl_short_vec.specs.declared.refuse.VectorFault.TheVariants as vector_faults
use Rattle.cl_short_vec.specs.declared.refuse.VectorRefusal.{VectorRefusal}
use Rattle.cl_short_vec.specs.Types.{vector_in, selected, selection_in}
use Rattle.cl_short_vec.specs.Marks.{kind_by, marked, marked_parts}
use Rattle.cl_short_vec.specs.Roles.{is_element, role_of}
use Rattle.cl_short_vec.specs.Faults.{components_of, misplaced, no_component, items_given, types_differ, refusals}
use Rattle.cl_short_vec.specs.Faults.{refusals_in, refusal_of}

abbrev refusal : VectorFault → ℕ → VectorRefusal
refusal fault token = record { fault = fault; token = token }

-- nodes with no part, one and two
abbrev leaf : Form → List ℕ → ℕ → Syntax
leaf form w f = node form w f f none

abbrev one : Form → List ℕ → ℕ → ℕ → Syntax → Syntax
one form w f l a = node form w f l (more a none)

abbrev two : Form → List ℕ → ℕ → ℕ → Syntax → Syntax → Syntax
two form w f l a b = node form w f l (more a (more b none))

-- the unit `void k() { .. }` with these lines, whose last token has this number
abbrev in_function : ℕ → Forest → Syntax
in_function last lines = one forms.UnitNode (codes "") 0 last (node forms.FunctionNode (codes "k ( )") 0 last
    (more (leaf forms.ResultNode (codes "void") 0) (more (leaf forms.ParamsNode (codes "") 3)
    (more (node forms.BlockNode (codes "{ }") 4 last lines) none))))

-- ---- a component that is not there

-- __kernel void e(__global int4 *a) { int4 t; t.x = t.sF; }
pub told0 :
    refusal_of (one forms.UnitNode (codes "") 0 21 (node forms.FunctionNode (codes "e ( )") 0 21
    (more (leaf forms.HeadNode (codes "__kernel") 0) (more (leaf forms.ResultNode (codes "void") 1)
    (more (one forms.ParamsNode (codes "") 4 7 (two forms.ParamNode (codes "a") 4 7
    (one forms.TypeNode (codes "int4") 4 5 (leaf forms.SpaceNode (codes "__global") 4))
    (leaf forms.StarNode (codes "*") 6))) (more (two forms.BlockNode (codes "{ }") 9 21
    (two forms.DeclareNode (codes ";") 10 12 (leaf forms.TypeNode (codes "int4") 10)
    (leaf forms.DeclaratorNode (codes "t") 11)) (one forms.SimpleNode (codes ";") 13 20
    (two forms.AssignNode (codes "=") 13 19 (one forms.PostfixNode (codes ". x") 13 15
    (leaf forms.VariableNode (codes "t") 13)) (one forms.PostfixNode (codes ". sF") 17 19
    (leaf forms.VariableNode (codes "t") 17))))) none)))))) ≡ Some (refusal vector_faults.NoComponent 17)
unfolding names_outside base_in space_in binary_in setting_in prefix_in postfix_in intrinsic_in vector_in selected
    selection_in kind_by marked marked_parts is_element role_of components_of misplaced no_component items_given
    types_differ refusals refusals_in
told0 = refl

-- ---- a number for a vector

-- void k() { int4 t; t = 5; }
pub told1 :
    refusal_of (in_function 12 (more (two forms.DeclareNode (codes ";") 5 7 (leaf forms.TypeNode (codes "int4") 5)
    (leaf forms.DeclaratorNode (codes "t") 6)) (more (one forms.SimpleNode (codes ";") 8 11
    (two forms.AssignNode (codes "=") 8 10 (leaf forms.VariableNode (codes "t") 8)
    (leaf forms.NumberNode (codes "5") 10))) none))) ≡ Some (refusal vector_faults.TypesDiffer 8)
unfolding names_outside base_in space_in binary_in setting_in prefix_in postfix_in intrinsic_in vector_in selected
    selection_in kind_by marked marked_parts is_element role_of components_of misplaced no_component items_given
    types_differ refusals refusals_in
told1 = refl

-- ---- vectors of two types

-- void k() { int4 t; int2 u; t = t + u; }
pub told2 :
    refusal_of (in_function 17 (more (two forms.DeclareNode (codes ";") 5 7 (leaf forms.TypeNode (codes "int4") 5)
    (leaf forms.DeclaratorNode (codes "t") 6)) (more (two forms.DeclareNode (codes ";") 8 10
    (leaf forms.TypeNode (codes "int2") 8) (leaf forms.DeclaratorNode (codes "u") 9))
    (more (one forms.SimpleNode (codes ";") 11 16 (two forms.AssignNode (codes "=") 11 15
    (leaf forms.VariableNode (codes "t") 11) (two forms.SumNode (codes "+") 13 15
    (leaf forms.VariableNode (codes "t") 13) (leaf forms.VariableNode (codes "u") 15)))) none))))
    ≡ Some (refusal vector_faults.TypesDiffer 13)
unfolding names_outside base_in space_in binary_in setting_in prefix_in postfix_in intrinsic_in vector_in selected
    selection_in kind_by marked marked_parts is_element role_of components_of misplaced no_component items_given
    types_differ refusals refusals_in
told2 = refl

-- ---- a component of a value

-- void k() { int4 t, u; int x; x = (t + u).x; }
pub told3 :
    refusal_of (in_function 23 (more (node forms.DeclareNode (codes ", ;") 5 9
    (more (leaf forms.TypeNode (codes "int4") 5) (more (leaf forms.DeclaratorNode (codes "t") 6)
    (more (leaf forms.DeclaratorNode (codes "u") 8) none)))) (more (two forms.DeclareNode (codes ";") 10 12
    (leaf forms.TypeNode (codes "int") 10) (leaf forms.DeclaratorNode (codes "x") 11))
    (more (one forms.SimpleNode (codes ";") 13 22 (two forms.AssignNode (codes "=") 13 21
    (leaf forms.VariableNode (codes "x") 13) (one forms.PostfixNode (codes ". x") 15 21
    (one forms.ParenNode (codes "( )") 15 19 (two forms.SumNode (codes "+") 16 18
    (leaf forms.VariableNode (codes "t") 16) (leaf forms.VariableNode (codes "u") 18)))))) none))))
    ≡ Some (refusal vector_faults.Misplaced 15)
unfolding names_outside base_in space_in binary_in setting_in prefix_in postfix_in intrinsic_in vector_in selected
    selection_in kind_by marked marked_parts is_element role_of components_of misplaced no_component items_given
    types_differ refusals refusals_in
told3 = refl

-- ---- a list in braces

-- void k() { int4 t = {1, 2, 3, 4}; }
pub told4 :
    refusal_of (in_function 18 (more (two forms.DeclareNode (codes ";") 5 17 (leaf forms.TypeNode (codes "int4") 5)
    (one forms.DeclaratorNode (codes "t =") 6 16 (node forms.ListNode (codes "{ , , , }") 8 16
    (more (leaf forms.NumberNode (codes "1") 9) (more (leaf forms.NumberNode (codes "2") 11)
    (more (leaf forms.NumberNode (codes "3") 13) (more (leaf forms.NumberNode (codes "4") 15) none))))))) none))
    ≡ Some (refusal vector_faults.Misplaced 8)
unfolding names_outside base_in space_in binary_in setting_in prefix_in postfix_in intrinsic_in vector_in selected
    selection_in kind_by marked marked_parts is_element role_of components_of misplaced no_component items_given
    types_differ refusals refusals_in
told4 = refl

-- ---- a target that names a component twice

-- void k() { int4 t; t.xx = t.xy; }
pub told5 :
    refusal_of (in_function 16 (more (two forms.DeclareNode (codes ";") 5 7 (leaf forms.TypeNode (codes "int4") 5)
    (leaf forms.DeclaratorNode (codes "t") 6)) (more (one forms.SimpleNode (codes ";") 8 15
    (two forms.AssignNode (codes "=") 8 14 (one forms.PostfixNode (codes ". xx") 8 10
    (leaf forms.VariableNode (codes "t") 8)) (one forms.PostfixNode (codes ". xy") 12 14
    (leaf forms.VariableNode (codes "t") 12)))) none))) ≡ Some (refusal vector_faults.NoComponent 8)
unfolding names_outside base_in space_in binary_in setting_in prefix_in postfix_in intrinsic_in vector_in selected
    selection_in kind_by marked marked_parts is_element role_of components_of misplaced no_component items_given
    types_differ refusals refusals_in
told5 = refl

-- ---- a list that does not fill

-- void k() { int4 t; t = (int4)(1, 2); }
pub told6 :
    refusal_of (in_function 19 (more (two forms.DeclareNode (codes ";") 5 7 (leaf forms.TypeNode (codes "int4") 5)
    (leaf forms.DeclaratorNode (codes "t") 6)) (more (one forms.SimpleNode (codes ";") 8 18
    (two forms.AssignNode (codes "=") 8 17 (leaf forms.VariableNode (codes "t") 8)
    (two forms.CastNode (codes "( )") 10 17 (leaf forms.TypeNode (codes "int4") 11)
    (one forms.ParenNode (codes "( )") 13 17 (two forms.ExprNode (codes ",") 14 16
    (leaf forms.NumberNode (codes "1") 14) (leaf forms.NumberNode (codes "2") 16)))))) none)))
    ≡ Some (refusal vector_faults.TypesDiffer 10)
unfolding names_outside base_in space_in binary_in setting_in prefix_in postfix_in intrinsic_in vector_in selected
    selection_in kind_by marked marked_parts is_element role_of components_of misplaced no_component items_given
    types_differ refusals refusals_in
told6 = refl

-- ---- an argument of a function of the unit

-- void k() { int4 t; f(t); }
pub told7 :
    refusal_of (in_function 13 (more (two forms.DeclareNode (codes ";") 5 7 (leaf forms.TypeNode (codes "int4") 5)
    (leaf forms.DeclaratorNode (codes "t") 6)) (more (one forms.SimpleNode (codes ";") 8 12
    (one forms.CallNode (codes "f ( )") 8 11 (leaf forms.VariableNode (codes "t") 10))) none)))
    ≡ Some (refusal vector_faults.Misplaced 10)
unfolding names_outside base_in space_in binary_in setting_in prefix_in postfix_in intrinsic_in vector_in selected
    selection_in kind_by marked marked_parts is_element role_of components_of misplaced no_component items_given
    types_differ refusals refusals_in
told7 = refl

-- ---- a parameter

-- void k(int4 t) { }
pub told8 :
    refusal_of (one forms.UnitNode (codes "") 0 7 (node forms.FunctionNode (codes "k ( )") 0 7
    (more (leaf forms.ResultNode (codes "void") 0) (more (one forms.ParamsNode (codes "") 3 4
    (one forms.ParamNode (codes "t") 3 4 (leaf forms.TypeNode (codes "int4") 3)))
    (more (node forms.BlockNode (codes "{ }") 6 7 none) none))))) ≡ Some (refusal vector_faults.Misplaced 3)
unfolding names_outside base_in space_in binary_in setting_in prefix_in postfix_in intrinsic_in vector_in selected
    selection_in kind_by marked marked_parts is_element role_of components_of misplaced no_component items_given
    types_differ refusals refusals_in
told8 = refl

-- ---- an array of two dimensions

-- void k() { int4 a[2][2]; }
pub told9 :
    refusal_of (in_function 14 (more (two forms.DeclareNode (codes ";") 5 13 (leaf forms.TypeNode (codes "int4") 5)
    (two forms.DeclaratorNode (codes "a [ ] [ ]") 6 12 (leaf forms.NumberNode (codes "2") 8)
    (leaf forms.NumberNode (codes "2") 11))) none)) ≡ Some (refusal vector_faults.Misplaced 6)
unfolding names_outside base_in space_in binary_in setting_in prefix_in postfix_in intrinsic_in vector_in selected
    selection_in kind_by marked marked_parts is_element role_of components_of misplaced no_component items_given
    types_differ refusals refusals_in
told9 = refl

-- ---- an assignment in the head of a `for`

-- void k() { int4 t; for (;; t = t) { } }
pub told10 :
    refusal_of (in_function 18 (more (two forms.DeclareNode (codes ";") 5 7 (leaf forms.TypeNode (codes "int4") 5)
    (leaf forms.DeclaratorNode (codes "t") 6)) (more (node forms.ForNode (codes "for ( ; )") 8 17
    (more (leaf forms.SimpleNode (codes ";") 10) (more (two forms.AssignNode (codes "=") 12 14
    (leaf forms.VariableNode (codes "t") 12) (leaf forms.VariableNode (codes "t") 14))
    (more (node forms.BlockNode (codes "{ }") 16 17 none) none)))) none))) ≡ Some (refusal vector_faults.Misplaced 12)
unfolding names_outside base_in space_in binary_in setting_in prefix_in postfix_in intrinsic_in vector_in selected
    selection_in kind_by marked marked_parts is_element role_of components_of misplaced no_component items_given
    types_differ refusals refusals_in
told10 = refl

-- ---- letters on a vector of eight

-- void k() { int8 t; t.lo.x = t.s7; t.hi = t.even; t.xy = t.lo; }
pub told11 :
    refusal_of (in_function 34 (more (two forms.DeclareNode (codes ";") 5 7 (leaf forms.TypeNode (codes "int8") 5)
    (leaf forms.DeclaratorNode (codes "t") 6)) (more (one forms.SimpleNode (codes ";") 8 17
    (two forms.AssignNode (codes "=") 8 16 (one forms.PostfixNode (codes ". x") 8 12
    (one forms.PostfixNode (codes ". lo") 8 10 (leaf forms.VariableNode (codes "t") 8)))
    (one forms.PostfixNode (codes ". s7") 14 16 (leaf forms.VariableNode (codes "t") 14))))
    (more (one forms.SimpleNode (codes ";") 18 25 (two forms.AssignNode (codes "=") 18 24
    (one forms.PostfixNode (codes ". hi") 18 20 (leaf forms.VariableNode (codes "t") 18))
    (one forms.PostfixNode (codes ". even") 22 24 (leaf forms.VariableNode (codes "t") 22))))
    (more (one forms.SimpleNode (codes ";") 26 33 (two forms.AssignNode (codes "=") 26 32
    (one forms.PostfixNode (codes ". xy") 26 28 (leaf forms.VariableNode (codes "t") 26))
    (one forms.PostfixNode (codes ". lo") 30 32 (leaf forms.VariableNode (codes "t") 30)))) none)))))
    ≡ Some (refusal vector_faults.NoComponent 26)
unfolding names_outside base_in space_in binary_in setting_in prefix_in postfix_in intrinsic_in vector_in selected
    selection_in kind_by marked marked_parts is_element role_of components_of misplaced no_component items_given
    types_differ refusals refusals_in
told11 = refl

-- ---- nothing

-- void k() { int4 t; int x; t.xyxy.lo = t.zw; t = t + x; x = t.w; t = min(t, t); t <<= 1; }
pub told12 :
    refusal_of (in_function 46 (more (two forms.DeclareNode (codes ";") 5 7 (leaf forms.TypeNode (codes "int4") 5)
    (leaf forms.DeclaratorNode (codes "t") 6)) (more (two forms.DeclareNode (codes ";") 8 10
    (leaf forms.TypeNode (codes "int") 8) (leaf forms.DeclaratorNode (codes "x") 9))
    (more (one forms.SimpleNode (codes ";") 11 20 (two forms.AssignNode (codes "=") 11 19
    (one forms.PostfixNode (codes ". lo") 11 15 (one forms.PostfixNode (codes ". xyxy") 11 13
    (leaf forms.VariableNode (codes "t") 11))) (one forms.PostfixNode (codes ". zw") 17 19
    (leaf forms.VariableNode (codes "t") 17)))) (more (one forms.SimpleNode (codes ";") 21 26
    (two forms.AssignNode (codes "=") 21 25 (leaf forms.VariableNode (codes "t") 21)
    (two forms.SumNode (codes "+") 23 25 (leaf forms.VariableNode (codes "t") 23)
    (leaf forms.VariableNode (codes "x") 25)))) (more (one forms.SimpleNode (codes ";") 27 32
    (two forms.AssignNode (codes "=") 27 31 (leaf forms.VariableNode (codes "x") 27)
    (one forms.PostfixNode (codes ". w") 29 31 (leaf forms.VariableNode (codes "t") 29))))
    (more (one forms.SimpleNode (codes ";") 33 41 (two forms.AssignNode (codes "=") 33 40
    (leaf forms.VariableNode (codes "t") 33) (two forms.CallNode (codes "min ( , )") 35 40
    (leaf forms.VariableNode (codes "t") 37) (leaf forms.VariableNode (codes "t") 39))))
    (more (one forms.SimpleNode (codes ";") 42 45 (two forms.AssignNode (codes "<<=") 42 44
    (leaf forms.VariableNode (codes "t") 42) (leaf forms.NumberNode (codes "1") 44))) none)))))))) ≡ None
unfolding names_outside base_in space_in binary_in setting_in prefix_in postfix_in intrinsic_in vector_in selected
    selection_in kind_by marked marked_parts is_element role_of components_of misplaced no_component items_given
    types_differ refusals refusals_in
told12 = refl

-- ---- a number among vector arguments

-- void k() { int4 t; t = min(t, 1); }
pub told13 :
    refusal_of (in_function 17 (more (two forms.DeclareNode (codes ";") 5 7 (leaf forms.TypeNode (codes "int4") 5)
    (leaf forms.DeclaratorNode (codes "t") 6)) (more (one forms.SimpleNode (codes ";") 8 16
    (two forms.AssignNode (codes "=") 8 15 (leaf forms.VariableNode (codes "t") 8)
    (two forms.CallNode (codes "min ( , )") 10 15 (leaf forms.VariableNode (codes "t") 12)
    (leaf forms.NumberNode (codes "1") 14)))) none))) ≡ Some (refusal vector_faults.TypesDiffer 10)
unfolding names_outside base_in space_in binary_in setting_in prefix_in postfix_in intrinsic_in vector_in selected
    selection_in kind_by marked marked_parts is_element role_of components_of misplaced no_component items_given
    types_differ refusals refusals_in
told13 = refl

-- ---- an array with an initialiser, in the unit and in a block

-- __constant int4 c[2] = {1, 2};
pub told14 :
    refusal_of (one forms.UnitNode (codes "") 0 12 (two forms.DeclareNode (codes ";") 0 12
    (one forms.TypeNode (codes "int4") 0 1 (leaf forms.SpaceNode (codes "__constant") 0))
    (two forms.DeclaratorNode (codes "c [ ] =") 2 11 (leaf forms.NumberNode (codes "2") 4)
    (two forms.ListNode (codes "{ , }") 7 11 (leaf forms.NumberNode (codes "1") 8)
    (leaf forms.NumberNode (codes "2") 10))))) ≡ Some (refusal vector_faults.Misplaced 2)
unfolding names_outside base_in space_in binary_in setting_in prefix_in postfix_in intrinsic_in vector_in selected
    selection_in kind_by marked marked_parts is_element role_of components_of misplaced no_component items_given
    types_differ refusals refusals_in
told14 = refl

-- void k() { int4 a[2] = {1, 2}; }
pub told15 :
    refusal_of (in_function 17 (more (two forms.DeclareNode (codes ";") 5 16 (leaf forms.TypeNode (codes "int4") 5)
    (two forms.DeclaratorNode (codes "a [ ] =") 6 15 (leaf forms.NumberNode (codes "2") 8)
    (two forms.ListNode (codes "{ , }") 11 15 (leaf forms.NumberNode (codes "1") 12)
    (leaf forms.NumberNode (codes "2") 14)))) none)) ≡ Some (refusal vector_faults.Misplaced 6)
unfolding names_outside base_in space_in binary_in setting_in prefix_in postfix_in intrinsic_in vector_in selected
    selection_in kind_by marked marked_parts is_element role_of components_of misplaced no_component items_given
    types_differ refusals refusals_in
told15 = refl

-- ---- the address of an element, and of a value

-- void k(__global int4 *a) { a = &(a[1]); }
pub told16 :
    refusal_of (one forms.UnitNode (codes "") 0 19 (node forms.FunctionNode (codes "k ( )") 0 19
    (more (leaf forms.ResultNode (codes "void") 0) (more (one forms.ParamsNode (codes "") 3 6
    (two forms.ParamNode (codes "a") 3 6 (one forms.TypeNode (codes "int4") 3 4
    (leaf forms.SpaceNode (codes "__global") 3)) (leaf forms.StarNode (codes "*") 5)))
    (more (one forms.BlockNode (codes "{ }") 8 19 (one forms.SimpleNode (codes ";") 9 18
    (two forms.AssignNode (codes "=") 9 17 (leaf forms.VariableNode (codes "a") 9)
    (one forms.UnaryNode (codes "&") 11 17 (one forms.ParenNode (codes "( )") 12 17
    (two forms.PostfixNode (codes "[ ]") 13 16 (leaf forms.VariableNode (codes "a") 13)
    (leaf forms.NumberNode (codes "1") 15))))))) none))))) ≡ None
unfolding names_outside base_in space_in binary_in setting_in prefix_in postfix_in intrinsic_in vector_in selected
    selection_in kind_by marked marked_parts is_element role_of components_of misplaced no_component items_given
    types_differ refusals refusals_in
told16 = refl

-- void k(__global int4 *a) { a = &-a[1]; }
pub told17 :
    refusal_of (one forms.UnitNode (codes "") 0 18 (node forms.FunctionNode (codes "k ( )") 0 18
    (more (leaf forms.ResultNode (codes "void") 0) (more (one forms.ParamsNode (codes "") 3 6
    (two forms.ParamNode (codes "a") 3 6 (one forms.TypeNode (codes "int4") 3 4
    (leaf forms.SpaceNode (codes "__global") 3)) (leaf forms.StarNode (codes "*") 5)))
    (more (one forms.BlockNode (codes "{ }") 8 18 (one forms.SimpleNode (codes ";") 9 17
    (two forms.AssignNode (codes "=") 9 16 (leaf forms.VariableNode (codes "a") 9)
    (one forms.UnaryNode (codes "&") 11 16 (one forms.UnaryNode (codes "-") 12 16
    (two forms.PostfixNode (codes "[ ]") 13 16 (leaf forms.VariableNode (codes "a") 13)
    (leaf forms.NumberNode (codes "1") 15))))))) none))))) ≡ Some (refusal vector_faults.Misplaced 12)
unfolding names_outside base_in space_in binary_in setting_in prefix_in postfix_in intrinsic_in vector_in selected
    selection_in kind_by marked marked_parts is_element role_of components_of misplaced no_component items_given
    types_differ refusals refusals_in
told17 = refl

-- ---- a cast without a list

-- void k() { int4 t; t = (int4)t; }
pub told18 :
    refusal_of (in_function 15 (more (two forms.DeclareNode (codes ";") 5 7 (leaf forms.TypeNode (codes "int4") 5)
    (leaf forms.DeclaratorNode (codes "t") 6)) (more (one forms.SimpleNode (codes ";") 8 14
    (two forms.AssignNode (codes "=") 8 13 (leaf forms.VariableNode (codes "t") 8)
    (two forms.CastNode (codes "( )") 10 13 (leaf forms.TypeNode (codes "int4") 11)
    (leaf forms.VariableNode (codes "t") 13)))) none))) ≡ Some (refusal vector_faults.Misplaced 11)
unfolding names_outside base_in space_in binary_in setting_in prefix_in postfix_in intrinsic_in vector_in selected
    selection_in kind_by marked marked_parts is_element role_of components_of misplaced no_component items_given
    types_differ refusals refusals_in
told18 = refl

-- ---- an initialiser in the head of a `for`

-- void k() { for (int4 t = 5;;) { } }
pub told19 :
    refusal_of (in_function 16 (more (two forms.ForNode (codes "for ( ; )") 5 15
    (two forms.DeclareNode (codes ";") 7 11 (leaf forms.TypeNode (codes "int4") 7)
    (one forms.DeclaratorNode (codes "t =") 8 10 (leaf forms.NumberNode (codes "5") 10)))
    (node forms.BlockNode (codes "{ }") 14 15 none)) none)) ≡ Some (refusal vector_faults.TypesDiffer 8)
unfolding names_outside base_in space_in binary_in setting_in prefix_in postfix_in intrinsic_in vector_in selected
    selection_in kind_by marked marked_parts is_element role_of components_of misplaced no_component items_given
    types_differ refusals refusals_in
told19 = refl

-- void k() { for (int4 t = {1, 2, 3, 4};;) { } }
pub told20 :
    refusal_of (in_function 24 (more (two forms.ForNode (codes "for ( ; )") 5 23
    (two forms.DeclareNode (codes ";") 7 19 (leaf forms.TypeNode (codes "int4") 7)
    (one forms.DeclaratorNode (codes "t =") 8 18 (node forms.ListNode (codes "{ , , , }") 10 18
    (more (leaf forms.NumberNode (codes "1") 11) (more (leaf forms.NumberNode (codes "2") 13)
    (more (leaf forms.NumberNode (codes "3") 15) (more (leaf forms.NumberNode (codes "4") 17) none)))))))
    (node forms.BlockNode (codes "{ }") 22 23 none)) none)) ≡ Some (refusal vector_faults.Misplaced 10)
unfolding names_outside base_in space_in binary_in setting_in prefix_in postfix_in intrinsic_in vector_in selected
    selection_in kind_by marked marked_parts is_element role_of components_of misplaced no_component items_given
    types_differ refusals refusals_in
told20 = refl

-- ---- a name that is not visible

-- void k() { int x; x = q.x; }
pub told21 :
    refusal_of (in_function 14 (more (two forms.DeclareNode (codes ";") 5 7 (leaf forms.TypeNode (codes "int") 5)
    (leaf forms.DeclaratorNode (codes "x") 6)) (more (one forms.SimpleNode (codes ";") 8 13
    (two forms.AssignNode (codes "=") 8 12 (leaf forms.VariableNode (codes "x") 8)
    (one forms.PostfixNode (codes ". x") 10 12 (leaf forms.VariableNode (codes "q") 10)))) none)))
    ≡ Some (refusal vector_faults.NoComponent 10)
unfolding names_outside base_in space_in binary_in setting_in prefix_in postfix_in intrinsic_in vector_in selected
    selection_in kind_by marked marked_parts is_element role_of components_of misplaced no_component items_given
    types_differ refusals refusals_in
told21 = refl

-- ---- an inner scope hides a vector, as far as it goes

-- void k() { int4 t; { int t; t = 1; } t = t.wzyx; }
pub told22 :
    refusal_of (in_function 23 (more (two forms.DeclareNode (codes ";") 5 7 (leaf forms.TypeNode (codes "int4") 5)
    (leaf forms.DeclaratorNode (codes "t") 6)) (more (two forms.BlockNode (codes "{ }") 8 16
    (two forms.DeclareNode (codes ";") 9 11 (leaf forms.TypeNode (codes "int") 9)
    (leaf forms.DeclaratorNode (codes "t") 10)) (one forms.SimpleNode (codes ";") 12 15
    (two forms.AssignNode (codes "=") 12 14 (leaf forms.VariableNode (codes "t") 12)
    (leaf forms.NumberNode (codes "1") 14)))) (more (one forms.SimpleNode (codes ";") 17 22
    (two forms.AssignNode (codes "=") 17 21 (leaf forms.VariableNode (codes "t") 17)
    (one forms.PostfixNode (codes ". wzyx") 19 21 (leaf forms.VariableNode (codes "t") 19)))) none)))) ≡ None
unfolding names_outside base_in space_in binary_in setting_in prefix_in postfix_in intrinsic_in vector_in selected
    selection_in kind_by marked marked_parts is_element role_of components_of misplaced no_component items_given
    types_differ refusals refusals_in
told22 = refl

-- ---- a comparison gives the signed type

-- void k() { uint4 t; t = t < t; }
pub told23 :
    refusal_of (in_function 14 (more (two forms.DeclareNode (codes ";") 5 7 (leaf forms.TypeNode (codes "uint4") 5)
    (leaf forms.DeclaratorNode (codes "t") 6)) (more (one forms.SimpleNode (codes ";") 8 13
    (two forms.AssignNode (codes "=") 8 12 (leaf forms.VariableNode (codes "t") 8)
    (two forms.OrderNode (codes "<") 10 12 (leaf forms.VariableNode (codes "t") 10)
    (leaf forms.VariableNode (codes "t") 12)))) none))) ≡ Some (refusal vector_faults.TypesDiffer 8)
unfolding names_outside base_in space_in binary_in setting_in prefix_in postfix_in intrinsic_in vector_in selected
    selection_in kind_by marked marked_parts is_element role_of components_of misplaced no_component items_given
    types_differ refusals refusals_in
told23 = refl

-- ---- a name that is not visible may be a vector; in the head of a `for` it is told

-- void k() { int4 t; t = q; }
pub told24 :
    refusal_of (in_function 12 (more (two forms.DeclareNode (codes ";") 5 7 (leaf forms.TypeNode (codes "int4") 5)
    (leaf forms.DeclaratorNode (codes "t") 6)) (more (one forms.SimpleNode (codes ";") 8 11
    (two forms.AssignNode (codes "=") 8 10 (leaf forms.VariableNode (codes "t") 8)
    (leaf forms.VariableNode (codes "q") 10))) none))) ≡ None
unfolding names_outside base_in space_in binary_in setting_in prefix_in postfix_in intrinsic_in vector_in selected
    selection_in kind_by marked marked_parts is_element role_of components_of misplaced no_component items_given
    types_differ refusals refusals_in
told24 = refl
