use Rattle.std.proofs.Common.{false, sym, ap, ◌∙◌}
use Rattle.cl_model.specs.View.{statement_of, listed_statements}
use Rattle.cl_model.specs.Listed.{listed_arms}
use Rattle.cl_model.proofs.Rows.{block_listed, switch_listed}
use Rattle.kir_lower.specs.Ways.{way_out, way_out_of_all, way_out_of_arms}
use Rattle.kir_lower.proofs.exits.+leaving.Goals as goal

pub way_out-returns-in-Block : goal.way_out-returns-in-Block
way_out-returns-in-Block t c =
    c.way_out_of_all.ensures
    ∙ ap (λ l. way_out_of_all c.args.breaks c.args.continues (listed_statements l)) c.deref.ensures.value
    ∙ sym (ap (way_out c.args.breaks c.args.continues) (ap statement_of c.in-Block.is ∙ block_listed c.in-Block.list))

pub way_out-returns-in-Switch : goal.way_out-returns-in-Switch
way_out-returns-in-Switch t c =
    c.way_out_of_arms.ensures
    ∙ ap (λ l. way_out_of_arms false c.args.continues (listed_arms l)) c.deref-in-Switch.ensures.value
    ∙ sym (ap (way_out c.args.breaks c.args.continues) (ap statement_of c.in-Switch.is ∙
    switch_listed c.in-Switch.site c.in-Switch.value c.in-Switch.arms))
