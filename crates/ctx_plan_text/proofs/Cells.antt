-- The line of a variable, found at one of the cells.
use Rattle.std.proofs.Common.{◌≡◌, ℕ, suc, ◌+◌, ◌<◌, true, List, Option, length, get_or, drop, map, slice_get}
use Rattle.std.proofs.Common.{if◌then◌else◌, ap, sym, ◌∙◌}
use Rattle.kir.specs.Tree.{Variable}
use Rattle.kir.specs.declared.kernel.Cell.{Cell}
use Rattle.kir.specs.Listed.{kind_of, cell_of}
use Rattle.ctx_plan.specs.declared.plan.Home.{Home}
use Rattle.ctx_plan.proofs.Onto.{first_left}
use Rattle.ctx_plan_text.specs.Lines.{line_at, is_kind_of, line_among}

-- the line where the first cell that is left is the variable's
pub found_line : (homes : List Home) (v : Variable) (n : ℕ) (cells : List Cell) (c : Cell) (o : Option Home)
    (all : List ℕ) → n < length cells → c ≡ get_or cells n c → is_kind_of v (kind_of (get_or cells n c).kind) ≡ true
    → slice_get homes n ≡ o → line_among homes v n (map cell_of (drop n cells)) ≡ all →
    line_at o (kind_of (get_or cells n c).kind) ≡ all
found_line homes v n cells c o all lt is own at left =
    ap (λ (x : Cell). line_at o (kind_of x.kind)) (sym is)
    ∙ (ap (λ (h : Option Home). line_at h (kind_of c.kind)) (sym at)
    ∙
    (sym (ap (λ b. if b then line_at (slice_get homes n) (kind_of c.kind) else line_among homes v (suc n)
    (map cell_of (drop (n + 1) cells))) (ap (λ (x : Cell). is_kind_of v (kind_of x.kind)) is ∙ own))
    ∙ (sym (ap (λ l. line_among homes v n (map cell_of l)) (first_left cells n c lt is)) ∙ left)))
