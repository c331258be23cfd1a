use Rattle.std.proofs.Common.{◌≡◌, ℕ, ◌+◌, ◌<◌, ◌≤◌, ◌++◌, List, [], length, map, get_or, sym, ap, ap₂, ◌∙◌, subst}
use Rattle.std.proofs.Common.{append-nil, arith}
use Rattle.std.proofs.lemmas.List.{length-map, get_or_default}
use Rattle.cl_meaning.specs.Typed.{Unit'}
use Rattle.cl_meaning.specs.View.{unit_of}
use Rattle.cl_model.specs.Valid.{IsValid}
use Rattle.cl_check_sound.specs.Erased.{program_of}
use Rattle.launch_file.specs.Binding.{part_at}
use Rattle.launch_file.specs.Texts.{Part, text_of}
use Rattle.wg_compile.specs.declared.Compiled.{Compiled}
use Rattle.wg_compile.specs.Correct.{IsCompilation}
use Rattle.wg_top.specs.CompiledShown.{showing}
use Rattle.wg_top.specs.Shown.{head_of, AreTexts}
use Rattle.wg_top.proofs.BoundLemmas.{at_place}
use Rattle.wg_top.proofs.LaunchLemmas.{holds_at}
use Rattle.wg_top.proofs.ShownLemmas.{one_text, same_at, no_text}
use Rattle.wg_top.proofs.texts.texts_of.Goals as goal

pub loop-k-preserved : goal.loop-k-preserved
loop-k-preserved c = λ later texts.
    let text = text_of c.args.given.now.text in
    let kernels : List Compiled = c.args.given.now.kernels.items in
    let unit : Compiled → Unit' = λ q. unit_of q.program in
    let units : List Unit' = map unit kernels in
    let kernel : Compiled = c.compiled.result.now in
    let k : ℕ = c.loop-k.k in
    let in_kernels : c.loop-k.k < length kernels =
    omega (arith, c.loop-k-test.true, c.len-k-end.ensures, c.args.given.now.kernels.ok.0) in
    let is : kernel ≡ get_or kernels k kernel =
    c.compiled.ensures ∙ (c.index.ensures ∙ get_or_default kernels k c.index.result.now kernel in_kernels) in
    let in_units : c.loop-k.k < length units = omega (arith, in_kernels, length-map kernels unit) in
    let many : length kernels ≡ length text.list = sym (length-map kernels (λ (q : Compiled). q.group.kernel)) ∙
    (ap length c.requires.names ∙ length-map text.list (λ (p : Part). p.kernel)) in
    let in_parts : c.loop-k.k < length text.list = omega (arith, in_kernels, many) in
    let part : Part = part_at text k in
    let passed : IsCompilation text.lanes kernel =
    holds_at (IsCompilation text.lanes) kernels k kernel in_kernels is c.requires.passes in
    let valid : IsValid (program_of (unit kernel)) =
    holds_at (λ (q : Compiled). IsValid (program_of (unit_of q.program))) kernels k kernel in_kernels is
    c.requires.valid in
    let name : kernel.group.kernel ≡ part.kernel =
    same_at (λ (q : Compiled). q.group.kernel) (λ (p : Part). p.kernel) kernels text.list c.requires.names k
    kernel _ in_kernels in_parts is in
    let shown = subst (λ (n : List ℕ). showing c.args.shown text.lanes n (unit kernel) c.in_ok-own.own.items) name
    (c.in_ok-own.ensures text.lanes passed valid) in
    let put : c.put.new.text.items ≡ (c.loop-k.text.items ++ head_of text.several (k + 1)) ++ c.in_ok-own.own.items =
    c.in_ok-put.ensures ∙ ap₂ (λ (a b : List ℕ). a ++ b) c.in_ok-put_head.ensures c.deref.ensures.value in
    subst (λ (t : List ℕ). AreTexts (showing c.args.shown) text.lanes text.several 1 text.list units (t ++ later))
    (sym put)
    (one_text (showing c.args.shown) text.lanes text.several text.list units k part (unit kernel) c.loop-k.text.items
    c.in_ok-own.own.items later in_parts in_units (get_or_default text.list k _ part in_parts)
    (at_place unit kernels k kernel in_kernels is) shown c.loop-k.invariant texts)

pub returns : goal.returns
returns c =
    let text = text_of c.args.given.now.text in
    let kernels : List Compiled = c.args.given.now.kernels.items in
    let unit : Compiled → Unit' = λ q. unit_of q.program in
    let units : List Unit' = map unit kernels in
    let few : length kernels ≤ c.loop-k.k =
    omega (arith, c.loop-k-test.false, c.len-k-end.ensures, c.args.given.now.kernels.ok.0) in
    let few_units : length units ≤ c.loop-k.k = omega (arith, few, length-map kernels unit) in
    let many : length kernels ≡ length text.list = sym (length-map kernels (λ (q : Compiled). q.group.kernel)) ∙
    (ap length c.requires.names ∙ length-map text.list (λ (p : Part). p.kernel)) in
    let few_parts : length text.list ≤ c.loop-k.k = omega (arith, few, many) in
    subst (λ (t : List ℕ). AreTexts (showing c.args.shown) text.lanes text.several 1 text.list units t)
    (append-nil c.loop-k.text.items)
    (c.loop-k.invariant [] (no_text (showing c.args.shown) text.lanes text.several _ c.loop-k.k text.list units
    few_parts few_units))
