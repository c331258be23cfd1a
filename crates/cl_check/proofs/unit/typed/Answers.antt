use Rattle.std.proofs.Common.{map, length, ap, ◌∙◌}
use Rattle.cl_model.specs.declared.program.Program.{Program}
use Rattle.cl_tree.specs.Syntax.{view}
use Rattle.cl_meaning.specs.Meant.{kernel_from}
use Rattle.cl_meaning.specs.View.{function_of, table_of}
use Rattle.cl_scope.specs.View.{env_of, signature_of}
use Rattle.cl_faults.specs.View.{asked_of}
use Rattle.cl_fragment.specs.declared.fragment.Piece.{Piece}
use Rattle.cl_fragment.specs.View.{piece_of}
use Rattle.cl_check.proofs.Judging.{fault_then}
use Rattle.cl_check.proofs.Answering.{all_sound, first_fault, program_is}
use Rattle.cl_check.proofs.unit.typed.Goals as goal

pub returns-in-Err-clause-faulted : goal.returns-in-Err-clause-faulted
returns-in-Err-clause-faulted c =
    fault_then Piece Program c.in-Err.e _ _ c.in-Err.ensures.faulted
    (λ k token x. first_fault (asked_of c.args.asked.now) (length c.args.places.now) c.args.places.now
    (view c.args.unit.now) (env_of c.args.places.now c.in_ok-environment.environment) k token
    (c.in_ok-environment.ensures c.args.places.now) x)

pub returns-in-Ok-clause-sound : goal.returns-in-Ok-clause-sound
returns-in-Ok-clause-sound c =
    all_sound (asked_of c.args.asked.now) (length c.args.places.now) c.args.places.now (view c.args.unit.now)
    (env_of c.args.places.now c.in_ok-environment.environment) (env_of c.args.places.now c.check_tree.new.environment)
    c.new-sites.result.items c.check_tree.new.sites.items (piece_of c.in-Ok.piece)
    (c.in_ok-environment.ensures c.args.places.now) c.in-Ok.ensures.walked

pub returns-in-Ok-clause-program : goal.returns-in-Ok-clause-program
returns-in-Ok-clause-program c =
    program_is (asked_of c.args.asked.now) (length c.args.places.now) c.args.places.now c.args.asked.now.kernel
    (view c.args.unit.now) (env_of c.args.places.now c.in_ok-environment.environment)
    (env_of c.args.places.now c.check_tree.new.environment)
    c.new-sites.result.items c.check_tree.new.sites.items (piece_of c.in-Ok.piece)
    (map table_of c.tables_of.result.items) (map function_of c.functions_of.result.items) c.in_ok-kernel.kernel
    (c.in_ok-environment.ensures c.args.places.now) c.new-sites.ensures.items c.in-Ok.ensures.walked
    (ap (λ v. map table_of v.items) c.tables_of.ensures) c.functions_of.ensures
    (c.in_ok-kernel.ensures ∙ ap (λ z. kernel_from z 0
    (map signature_of c.in_ok-environment.environment.functions.items))
    c.bytes.ensures)
