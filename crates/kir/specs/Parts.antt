-- The plain view of the parts of a kernel, valid or not.
use Rattle.kir.specs.declared.fitting.KernelParts.{KernelParts}
use Rattle.kir.specs.Tree as tree
use Rattle.kir.specs.Listed.{kernel_with}

abbrev pub parts_of : KernelParts → tree.Kernel
parts_of k = kernel_with k.params.items k.cells.items k.arrays.items k.tables.items k.body.items k.sites.items
