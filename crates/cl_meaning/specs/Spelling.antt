-- What the own words of a node say.
pub use Rattle.cl_meaning.specs.OwnWords.{pieces, name_in}
unfoldable pub use Rattle.cl_meaning.specs.Types.{base_in, space_in}
pub use Rattle.cl_meaning.specs.Types.{is_const, declared_in, is_outside}
unfoldable pub use Rattle.cl_meaning.specs.Operators.{binary_in, setting_in, prefix_in, postfix_in}
unfoldable pub use Rattle.cl_meaning.specs.Names.{intrinsic_in, flag_in}
pub use Rattle.cl_meaning.specs.Names.{dimensions_in, is_set, is_kernel, requires_size}
unfoldable pub use Rattle.cl_meaning.specs.Literals.{truth_in, literal_in}
