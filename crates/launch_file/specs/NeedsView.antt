-- The plain view of what a kernel asks of its launches.
use Rattle.launch_file.specs.declared.bind.KernelNeeds.{KernelNeeds}
use Rattle.launch_file.specs.Binding.{Needs}

abbrev pub needs_of : KernelNeeds → Needs
needs_of n = record { kinds = n.kinds.items; local_bytes = n.local_bytes; required = n.required }
