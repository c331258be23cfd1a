-- One unit, `kernel void k(global int *a) { a[0] = 1; }`, for which all that the laws ask holds.
use Rattle.std.proofs.Common.{◌≡◌, ℕ, zero, suc, List, [], ◌∷◌, Bool, true, false, not, ◌&&◌, None, refl}
use Rattle.std.specs.Prelude.{codes}
use Rattle.cl_tree.specs.declared.terminal.Terminal.TheVariants as terminals
use Rattle.cl_tree.specs.declared.terminal.Leaf.{Leaf}
use Rattle.cl_tree.specs.declared.tree.Form.TheVariants as forms
use Rattle.cl_tree.specs.Syntax.{Syntax, none, more}
use Rattle.cl_tree.specs.Nodes.{Spot, tok, unit_node, function_node, word_node, params_node, param_node}
use Rattle.cl_tree.specs.Nodes.{type_front_node, star_node, block_node, simple_node, pair_node, index_node}
use Rattle.cl_tree.specs.Grammar.{Source, Cond, one, Spells}
use Rattle.cl_tree.specs.Grammar as grammar
use Rattle.cl_meaning.specs.Operators.{prefix_in, binary_in, setting_in, postfix_in}
use Rattle.cl_meaning.specs.Literals.{literal_in}
use Rattle.cl_meaning.specs.Literals as literals
use Rattle.cl_meaning.specs.Names as names
use Rattle.cl_meaning.specs.Types as types
use Rattle.cl_token.specs.NumberReading as reading
use Rattle.wg_num.specs.Wrap as wraps
use Rattle.wg_num.specs.Operators as operators
use Rattle.cl_meaning.specs.Visible as visible
use Rattle.cl_meaning.specs.Faults as judged
use Rattle.cl_meaning.specs.Kinds as kinds
use Rattle.cl_model.specs.Valid.{IsValid}
use Rattle.cl_meaning.specs.declared.fault.Fault.{Fault}
use Rattle.cl_meaning.specs.declared.fault.Fault.TheVariants as faults
use Rattle.cl_meaning.specs.Visible.{Node}
use Rattle.cl_meaning.specs.Faults.{Asked, AllSound, at_fault, looked}
use Rattle.cl_meaning.specs.Meant.{unit_meant}
use Rattle.cl_limits.specs.Limits as limits
use Rattle.cl_limits.specs.Heights as heights
use Rattle.cl_meaning.specs.Meant as meanings
use Rattle.cl_check_sound.specs.Shape.{IsUnit}
use Rattle.cl_check_sound.specs.Erased.{program_of}
use Rattle.cl_limits.specs.Judged.{nodes_of, asked_in, limit_in, IsAccepted}
use Rattle.cl_check_sound.proofs.Assigning.{both_true, is_not}
use Rattle.cl_check_sound.proofs.Grammatical.{AllWords}
use Rattle.cl_check_sound.proofs.Spelled.{shape}
use Rattle.cl_check_sound.proofs.Accepted.{units_valid}

abbrev every_fault : List Fault
every_fault = faults.UnknownName ∷ faults.DeclaredTwice ∷ faults.OperandTypes ∷ faults.ArgumentCount ∷
    faults.ArgumentType ∷ faults.NotAssignable ∷ faults.ConstantWritten ∷ faults.OutsideType ∷ faults.LocalMisplaced ∷
    faults.ProgramVariable ∷ faults.KernelSignature ∷ faults.Recursion ∷ faults.PointerRoot ∷ faults.ArrayLength ∷
    faults.Misplaced ∷ faults.CaseValue ∷ faults.ReturnFit ∷ faults.BarrierFlags ∷ faults.KernelTooLarge ∷
    faults.PrivateMemory ∷ faults.BarriersTooDeep ∷ faults.NoSuchKernel ∷ faults.LocalMemory ∷ faults.PrototypeMatch ∷
    []

abbrev none_in : (Fault → Bool) → List Fault → Bool
none_in f [] = true
none_in f (k ∷ ks) = not (f k) && none_in f ks

abbrev NoneAt : (Fault → Bool) → List Fault → ℕ → Type 0
NoneAt f [] n = Unit {0}
NoneAt f (k ∷ ks) zero = f k ≡ false
NoneAt f (k ∷ ks) (suc n) = NoneAt f ks n

none_at : (f : Fault → Bool) (ks : List Fault) (n : ℕ) → none_in f ks ≡ true → NoneAt f ks n
none_at f [] n h = tt
none_at f (k ∷ ks) zero h = is_not (f k) (both_true (not (f k)) (none_in f ks) h).0
none_at f (k ∷ ks) (suc n) h = none_at f ks n (both_true (not (f k)) (none_in f ks) h).1

-- no fault stands
abbrev quiet : (Fault → Bool) → Bool
quiet f = none_in f every_fault

none_of : (f : Fault → Bool) → quiet f ≡ true → (k : Fault) → f k ≡ false
none_of f h faults.UnknownName = none_at f every_fault 0 h
none_of f h faults.DeclaredTwice = none_at f every_fault 1 h
none_of f h faults.OperandTypes = none_at f every_fault 2 h
none_of f h faults.ArgumentCount = none_at f every_fault 3 h
none_of f h faults.ArgumentType = none_at f every_fault 4 h
none_of f h faults.NotAssignable = none_at f every_fault 5 h
none_of f h faults.ConstantWritten = none_at f every_fault 6 h
none_of f h faults.OutsideType = none_at f every_fault 7 h
none_of f h faults.LocalMisplaced = none_at f every_fault 8 h
none_of f h faults.ProgramVariable = none_at f every_fault 9 h
none_of f h faults.KernelSignature = none_at f every_fault 10 h
none_of f h faults.Recursion = none_at f every_fault 11 h
none_of f h faults.PointerRoot = none_at f every_fault 12 h
none_of f h faults.ArrayLength = none_at f every_fault 13 h
none_of f h faults.Misplaced = none_at f every_fault 14 h
none_of f h faults.CaseValue = none_at f every_fault 15 h
none_of f h faults.ReturnFit = none_at f every_fault 16 h
none_of f h faults.BarrierFlags = none_at f every_fault 17 h
none_of f h faults.KernelTooLarge = none_at f every_fault 18 h
none_of f h faults.PrivateMemory = none_at f every_fault 19 h
none_of f h faults.BarriersTooDeep = none_at f every_fault 20 h
none_of f h faults.NoSuchKernel = none_at f every_fault 21 h
none_of f h faults.LocalMemory = none_at f every_fault 22 h
none_of f h faults.PrototypeMatch = none_at f every_fault 23 h

abbrev all_quiet : Asked → List Node → Bool
all_quiet asked [] = true
all_quiet asked (n ∷ ns) = quiet (at_fault asked (looked n)) && all_quiet asked ns

all_sound : (asked : Asked) (ns : List Node) → all_quiet asked ns ≡ true → AllSound asked ns
all_sound asked [] h = tt
all_sound asked (n ∷ ns) h = let p = both_true (quiet (at_fault asked (looked n))) (all_quiet asked ns) h in
    (none_of (at_fault asked (looked n)) p.0, all_sound asked ns p.1)

abbrev s0 : Spot
s0 = record { number = 0; word = codes "kernel" }

abbrev s1 : Spot
s1 = record { number = 1; word = codes "void" }

abbrev s2 : Spot
s2 = record { number = 2; word = codes "k" }

abbrev s3 : Spot
s3 = record { number = 3; word = codes "(" }

abbrev s4 : Spot
s4 = record { number = 4; word = codes "global" }

abbrev s5 : Spot
s5 = record { number = 5; word = codes "int" }

abbrev s6 : Spot
s6 = record { number = 6; word = codes "*" }

abbrev s7 : Spot
s7 = record { number = 7; word = codes "a" }

abbrev s8 : Spot
s8 = record { number = 8; word = codes ")" }

abbrev s9 : Spot
s9 = record { number = 9; word = codes "{" }

abbrev s10 : Spot
s10 = record { number = 10; word = codes "a" }

abbrev s11 : Spot
s11 = record { number = 11; word = codes "[" }

abbrev s12 : Spot
s12 = record { number = 12; word = codes "0" }

abbrev s13 : Spot
s13 = record { number = 13; word = codes "]" }

abbrev s14 : Spot
s14 = record { number = 14; word = codes "=" }

abbrev s15 : Spot
s15 = record { number = 15; word = codes "1" }

abbrev s16 : Spot
s16 = record { number = 16; word = codes ";" }

abbrev s17 : Spot
s17 = record { number = 17; word = codes "}" }

abbrev leaves : List Leaf
leaves = tok terminals.HeadWord s0 ∷ tok terminals.Void s1 ∷ tok terminals.Name s2 ∷ tok terminals.Open s3 ∷
    tok terminals.Space s4 ∷ tok terminals.Int s5 ∷ tok terminals.Star s6 ∷ tok terminals.Name s7 ∷
    tok terminals.Close s8 ∷ tok terminals.OpenBrace s9 ∷ tok terminals.Name s10 ∷ tok terminals.OpenBracket s11 ∷
    tok terminals.Number s12 ∷ tok terminals.CloseBracket s13 ∷ tok terminals.Equals s14 ∷ tok terminals.Number s15 ∷
    tok terminals.Semicolon s16 ∷ tok terminals.CloseBrace s17 ∷ []

words : AllWords leaves
unfolding setting_in binary_in prefix_in postfix_in literal_in reading.outcome_of reading.parts_of wraps.modulus
    wraps.half
words = (
  tt,
  (
    tt,
    (
      tt,
      (
        refl,
        (
          tt,
          (refl, ((refl, refl), (tt, (refl, (tt, (tt, (refl, (refl, (refl, (refl, (refl, (tt, (tt, tt))))))))))))),
        ),
      ),
    ),
  ),
)

abbrev parameter : Syntax
parameter =
    param_node (type_front_node [] (word_node forms.SpaceNode s4) [] (s5 ∷ []) []) (more (star_node s6 []) none) s7

abbrev body : Syntax
body =
    block_node s9 (more (simple_node
    (more (pair_node forms.AssignNode (index_node (word_node forms.VariableNode s10) s11
    (word_node forms.NumberNode s12) s13) s14 (word_node forms.NumberNode s15)) none) s16) none) s17

abbrev unit : Syntax
unit = unit_node (more (function_node (more (word_node forms.HeadNode s0) none) (word_node forms.ResultNode s1) s2 s3
    (params_node [] (more parameter none) s8) s8 body) none)

numbered : (m : Spot) → Spells Cond (one (word_node forms.NumberNode m)) (tok terminals.Number m ∷ [])
numbered m = grammar.cond_level
    (grammar.level_next (grammar.level_next
    (grammar.level_next (grammar.level_next
    (grammar.level_next (grammar.level_next
    (grammar.level_next (grammar.level_next
    (grammar.level_next (grammar.level_next
    (grammar.level_cast (grammar.cast_unary
    (grammar.unary_postfix (grammar.postfix_primary (grammar.number m)))))))))))))))

spelling : Spells Source (one unit) leaves
spelling =
    grammar.unit (grammar.many_more
    (grammar.just (grammar.function (grammar.many_more (grammar.just (grammar.head_word s0)) grammar.many_end)
    (grammar.result_void s1) s2 s3
    (grammar.params (grammar.param (grammar.type_front grammar.many_end (grammar.space s4) grammar.many_end
    (grammar.base_core (grammar.core_int s5)) grammar.many_end)
    (grammar.maybe_some (grammar.star s6 grammar.many_end)) s7) grammar.many_end) s8
    (grammar.block s9 (grammar.many_more
    (grammar.just (grammar.line_statement
    (grammar.statement_simple (grammar.simple
    (grammar.maybe_some (grammar.expr_assign
    (grammar.assign (grammar.unary_postfix (grammar.index (grammar.postfix_primary (grammar.variable s10))
    s11 (grammar.expr_assign (grammar.assign_cond (numbered s12))) s13)) terminals.Equals s14 refl
    (grammar.assign_cond (numbered s15))))) s16)))) grammar.many_end) s17))) grammar.many_end)

shaped : IsUnit unit
shaped = shape spelling words

quiet_everywhere : all_quiet (asked_in [] (codes "k") unit) (nodes_of [] unit) ≡ true
unfolding visible.in_order judged.misfits types.base_in types.names_outside visible.restored visible.inside
    visible.later visible.behind visible.left types.space_in postfix_in kinds.kind_step literal_in reading.outcome_of
    reading.parts_of wraps.modulus wraps.half visible.kind_of literals.truth_in names.flag_in names.intrinsic_in
    binary_in prefix_in setting_in operators.binary_of operators.unary_of wraps.bits_of wraps.wrap_of
quiet_everywhere = refl

within_limits : limit_in [] (codes "k") unit ≡ None
unfolding visible.in_order judged.misfits types.base_in types.names_outside visible.restored visible.inside
    visible.later visible.behind visible.left types.space_in postfix_in kinds.kind_step literal_in reading.outcome_of
    reading.parts_of wraps.modulus wraps.half visible.kind_of literals.truth_in names.flag_in names.intrinsic_in
    binary_in prefix_in setting_in operators.binary_of operators.unary_of wraps.bits_of wraps.wrap_of limits.total
    meanings.meant meanings.make heights.height
within_limits = refl

accepted : IsAccepted [] (codes "k") unit
accepted = record {
  sound = all_sound (asked_in [] (codes "k") unit) (nodes_of [] unit) quiet_everywhere;
  within = within_limits;
}

-- the unit stands for a valid program
pub stands : IsValid (program_of (unit_meant [] (codes "k") unit))
stands = units_valid [] (codes "k") unit shaped accepted
