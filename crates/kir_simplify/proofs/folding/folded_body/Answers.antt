use Rattle.std.proofs.Common.{◌∙◌, ap, sym, subst, ℕ, List, Option}
use Rattle.std.specs.Prelude.{Bool as Test}
use mathlib.Core.Path.{fun_ext}
use Rattle.kir.specs.declared.line.Atom.{Atom}
use Rattle.kir.specs.declared.line.Line.{Line}
use Rattle.kir.specs.Listed.{lines_of}
use Rattle.kir.specs.View.{kernel_of}
use Rattle.kir_simplify.specs.Computable.{AreComputable}
use Rattle.kir_simplify.specs.Passes.{nothing_known, folded}
use Rattle.kir_simplify.specs.Simple.{is_set_once}
use Rattle.kir_simplify.specs.Tables.{known_by, offsets_by, once_by}
use Rattle.kir_simplify.proofs.Computed.{same_asked}
use Rattle.kir_simplify.proofs.Folds.{body_folded}
use Rattle.kir_simplify.proofs.Validity.{body_computable}
use Rattle.kir_simplify.proofs.folding.folded_body.Goals as goal

pub fold_lines-requires : goal.fold_lines-requires
fold_lines-requires c =
    let facts = c.in_ok-facts.facts in
    let kernel = kernel_of c.args.kernel.now in
    same_asked (once_by facts) (offsets_by facts) nothing_known _ (lines_of c.deref.result.now)
    (λ n. ap (λ (x : List (Option Atom)). known_by x n) c.new-known.ensures.items)
    (subst (λ (ls : List Line). AreComputable (once_by facts) (offsets_by facts) nothing_known (lines_of ls))
    (sym c.deref.ensures.value)
    (subst (λ (one : ℕ → Test). AreComputable one (offsets_by facts) nothing_known kernel.body)
    (sym (fun_ext c.in_ok-facts.ensures.once))
    (subst (λ (os : ℕ → Test). AreComputable (is_set_once kernel) os nothing_known kernel.body)
    (sym (fun_ext c.in_ok-facts.ensures.offsets))
    (body_computable kernel c.args.kernel.now.valid))))

pub returns : goal.returns
returns c =
    let facts = c.in_ok-facts.facts in
    body_folded (kernel_of c.args.kernel.now) (once_by facts) (offsets_by facts) (known_by c.new-known.result.items)
    (lines_of c.in_ok-body.body.items) c.in_ok-facts.ensures.once c.in_ok-facts.ensures.offsets
    (λ n. ap (λ (x : List (Option Atom)). known_by x n) c.new-known.ensures.items)
    (c.in_ok-body.ensures.made ∙ ap (λ (ls : List Line).
    folded (once_by facts) (offsets_by facts) (known_by c.new-known.result.items) (lines_of ls)) c.deref.ensures.value)
