-- What a contract sees of a call.
use Rattle.cl_meaning.specs.Faults.{Call}
use Rattle.cl_meaning.specs.declared.call.Call as rust_call

abbrev pub call_of : rust_call.Call → Call
call_of c = record { caller = c.caller; called = c.called }
