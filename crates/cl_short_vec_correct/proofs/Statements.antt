-- Each vector statement of an accepted source stands in its function and does its steps.
use Rattle.cl_check_sound.proofs.Expanded.{expanded_read}
use Rattle.cl_check_sound.proofs.Spelled.{spelled_wide}
use Rattle.cl_short_vec_correct.specs.Law.{StatementsDo}
use Rattle.cl_short_vec_correct.proofs.NamesSpelled.{unit_words}
use Rattle.cl_short_vec_correct.proofs.TokensKept.{expanded_plain}
use Rattle.cl_short_vec_correct.proofs.UnitWords.{worded_unit}
use Rattle.cl_short_vec_correct.proofs.UnitForms.{form_does, form_stands}

pub statements_do : StatementsDo
statements_do source tokens expanded defines unit places kernel cuts fit expands spelled stays accepted =
    let shape = spelled_wide unit expanded spelled (expanded_read source tokens expanded defines cuts fit expands) in
    record {
      does = form_does places kernel unit shape (worded_unit unit
          (unit_words unit expanded spelled (expanded_plain source tokens expanded defines cuts expands))) stays
          accepted;
      stands = form_stands places kernel unit shape accepted;
    }
