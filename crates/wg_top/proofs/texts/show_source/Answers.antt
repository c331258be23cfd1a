use Rattle.std.proofs.Common.{List, map}
use Rattle.cl_meaning.specs.Typed.{Unit'}
use Rattle.cl_meaning.specs.View.{unit_of}
use Rattle.launch_file.specs.Texts.{Text, text_of}
use Rattle.wg_compile.specs.declared.Compiled.{Compiled}
use Rattle.wg_top.specs.Programs.{Runs}
use Rattle.wg_top.proofs.RunLemmas.{numbers_fit}
use Rattle.wg_top.proofs.OutcomeLemmas.{AreRunsFor, kernel_runs, compiled_runs, are_made, have_programs}
use Rattle.wg_top.proofs.texts.show_source.Goals as goal

pub returns-in-Ok-texts_of-clause-ok : goal.returns-in-Ok-texts_of-clause-ok
returns-in-Ok-texts_of-clause-ok g c =
    let text : Text = text_of c.in-Ok.given.text in
    let kernels : List Compiled = c.in-Ok.given.kernels.items in
    let units : List Unit' = map (λ (k : Compiled). unit_of k.program) kernels in
    let rs : List Runs = map kernel_runs kernels in
    let runs : AreRunsFor text.lanes text.list units rs =
    compiled_runs text.lanes kernels text.list c.in-Ok.ensures.given.passes c.in-Ok.ensures.given.valid
    c.in-Ok.ensures.given.names in
    record {
      text = text;
      units = units;
      read = c.in-Ok.ensures.read;
      fit = numbers_fit _ c.in-Ok.ensures.given.text.numbers;
      shows = c.in-Ok-texts_of.ensures;
      made = are_made text.lanes text.list units rs runs;
      compiled = have_programs text.lanes text.list units rs runs;
    }
