use Rattle.std.proofs.Common.{◌≡◌, ap, sym, ◌∙◌}
use Rattle.std.proofs.lemmas.Result.{on_ok_weaker}
use Rattle.cl_model.specs.Tree.{Switch}
use Rattle.cl_model.specs.Calls.{calls_in}
use Rattle.cl_model.specs.View.{expression_of, statement_of, listed_statements}
use Rattle.kir.specs.Inlined.{holds}
use Rattle.ctx_plan.specs.Outline.{NoPiece, BlockThen, cut_then, calls_then, outline_then, outlines_then}
use Rattle.ctx_plan.specs.Outline.{outlines_of_arms, pieces_then}
use Rattle.cl_model.specs.Listed.{listed_arms}
use Rattle.ctx_plan.specs.Points.{entry}
use Rattle.cl_model.proofs.Rows.{block_listed, switch_listed}
use Rattle.ctx_plan.proofs.Outlines.{block_piece}
use Rattle.ctx_plan.proofs.outline.+statements.Goals as goal

pub put_statement-returns-in_ok-put_statements-in-Block : goal.put_statement-returns-in_ok-put_statements-in-Block
put_statement-returns-in_ok-put_statements-in-Block t c =
    let I = entry c.args.inside.now in
    let list = c.in-Block.list in
    on_ok_weaker c.put_piece-in-Block.result (λ e rest.
    e rest
    ∙ ap (pieces_then c.args.pieces.now.items)
    (block_piece c.put_statements.new.pieces rest
    ∙ (ap (λ x. BlockThen x rest)
    (c.in_ok-put_statements-in-Block.ensures NoPiece
    ∙ (ap (λ xs. pieces_then xs (outlines_then I (listed_statements c.deref-in-Block.result.now) NoPiece))
    c.new-block.ensures.items
    ∙ ap (λ xs. outlines_then I (listed_statements xs) NoPiece) c.deref-in-Block.ensures.value))
    ∙ sym (ap (λ x. outline_then I x rest) (ap statement_of c.in-Block.is ∙ block_listed list)))))
    c.put_piece-in-Block.ensures

pub put_statement-returns-in_ok-put_arms-in-Switch : goal.put_statement-returns-in_ok-put_arms-in-Switch
put_statement-returns-in_ok-put_arms-in-Switch t c =
    let I = entry c.args.inside.now in
    let b = c.in_ok-cut-in-Switch.cut in
    let site = c.in-Switch.site in
    let V = expression_of c.in-Switch.value in
    let A = listed_arms c.in-Switch.arms.items in
    let is : statement_of c.args.s.now ≡ Switch site V A =
    ap statement_of c.in-Switch.is ∙ switch_listed site c.in-Switch.value c.in-Switch.arms in
    let same : b ≡ holds I (Switch site V A) = c.in_ok-cut-in-Switch.ensures ∙ ap (holds I) is in
    on_ok_weaker c.put_cut-in-Switch-3.result (λ e rest.
    e rest
    ∙ (c.in_ok-put_arms-in-Switch.ensures (cut_then b rest)
    ∙ (c.in_ok-put_cut-in-Switch-2.ensures _
    ∙ (c.in_ok-put_calls-in-Switch.ensures _
    ∙ (c.in_ok-put_cut-in-Switch.ensures _
    ∙ ap (pieces_then c.args.pieces.now.items)
    (ap (λ xs. cut_then b (calls_then (calls_in V)
    (cut_then b (outlines_of_arms I (listed_arms xs) (cut_then b rest))))) c.deref-in-Switch.ensures.value
    ∙ (ap (λ h. cut_then h (calls_then (calls_in V) (cut_then h (outlines_of_arms I A (cut_then h rest))))) same
    ∙ sym (ap (λ x. outline_then I x rest) is))))))))
    c.put_cut-in-Switch-3.ensures
