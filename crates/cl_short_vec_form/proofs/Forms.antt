-- All that is true of the unit without vectors.
use Rattle.std.proofs.Common.{if◌then◌else◌, ap}
use Rattle.cl_short_vec.specs.Kinds.{no_names}
use Rattle.cl_short_vec.specs.Marks.{marked}
use Rattle.cl_short_vec.specs.Unit.{scalarised}
use Rattle.cl_short_vec_form.specs.Law.{FormsAre}
use Rattle.cl_short_vec_form.proofs.Plain.{forms_plain}
use Rattle.cl_short_vec_form.proofs.Store.{forms_store}

pub forms_are : FormsAre
forms_are unit shape told = record {
  no_vectors = forms_plain unit shape;
  itself = λ e. ap (λ b. if b then scalarised (marked no_names unit) else unit) e;
  memory = forms_store unit shape told;
}
