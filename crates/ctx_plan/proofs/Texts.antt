-- The names and cuts of lines, line by line.
use Rattle.std.proofs.Common.{◌≡◌, ℕ, ◌+◌, ◌<◌, List, [], ◌∷◌, ◌++◌, append_assoc, length, get_or, drop, Global, refl}
use Rattle.std.proofs.Common.{ap, sym, ◌∙◌}
use Rattle.std.specs.Prelude.{◌||◌}
use Rattle.std.specs.Prelude.{Bool as Test, true, false}
use Rattle.std.specs.declared.vec.Vec.{Vec}
use Rattle.kir.specs.declared.line.Atom.{Atom}
use Rattle.kir.specs.declared.line.Line.{Line}
use Rattle.kir.specs.declared.line.Line.TheVariants as line
use Rattle.kir.specs.Tree.{Lines, NoLine}
use Rattle.kir.specs.Listed.{line_before, lines_in, lines_of, work_of}
use Rattle.kir.specs.Cuts.{holds_barrier}
use Rattle.kir.specs.Keeps.{Piece, Names, named_by, named_by_all, named_by_work, cut_before, pieces_of}
use Rattle.kir.proofs.Rows.{if_listed, loop_listed}
use Rattle.ctx_plan.specs.declared.keeping.Naming.{Naming}
use Rattle.ctx_plan.specs.Naming.{Leads}
use Rattle.ctx_plan.proofs.Onto.{first_left}
use Rattle.ctx_plan.proofs.Names.{leads_then, leads_as, LedThrough, through_step}

cut_push : (h : Test) (xs rest : List Piece) → cut_before h xs ++ rest ≡ cut_before h (xs ++ rest)
cut_push true xs rest = refl
cut_push false xs rest = refl

cut_split : (h : Test) (xs : List Piece) → cut_before h xs ≡ cut_before h [] ++ xs
cut_split true xs = refl
cut_split false xs = refl

if_text : (h : Test) (t c o rest : List Piece) →
    cut_before h (t ++ cut_before h (c ++ cut_before h (o ++ cut_before h rest))) ≡
    cut_before h (t ++ cut_before h (c ++ cut_before h (o ++ cut_before h []))) ++ rest
if_text h t c o rest =
    sym (cut_push h (t ++ cut_before h (c ++ cut_before h (o ++ cut_before h []))) rest
    ∙ ap (cut_before h) (append_assoc t (cut_before h (c ++ cut_before h (o ++ cut_before h []))) rest
    ∙ ap (λ x. t ++ x) (cut_push h (c ++ cut_before h (o ++ cut_before h [])) rest
    ∙ ap (cut_before h) (append_assoc c (cut_before h (o ++ cut_before h [])) rest
    ∙ ap (λ x. c ++ x) (cut_push h (o ++ cut_before h []) rest
    ∙ ap (cut_before h) (append_assoc o (cut_before h []) rest ∙ ap (λ x. o ++ x) (cut_push h [] rest)))))))

loop_text : (h : Test) (t a b rest : List Piece) → cut_before h (t ++ (a ++ cut_before h (b ++ cut_before h rest))) ≡
    cut_before h (t ++ (a ++ cut_before h (b ++ cut_before h []))) ++ rest
loop_text h t a b rest =
    sym (cut_push h (t ++ (a ++ cut_before h (b ++ cut_before h []))) rest
    ∙ ap (cut_before h) (append_assoc t (a ++ cut_before h (b ++ cut_before h [])) rest
    ∙ ap (λ x. t ++ x) (append_assoc a (cut_before h (b ++ cut_before h [])) rest
    ∙ ap (λ x. a ++ x) (cut_push h (b ++ cut_before h []) rest
    ∙ ap (cut_before h) (append_assoc b (cut_before h []) rest ∙ ap (λ x. b ++ x) (cut_push h [] rest))))))

-- the text of a line before that of others
pub pieces_first : (l : Line) (rest : Lines) → pieces_of (line_before l rest) ≡ pieces_of (line_before l NoLine) ++
    pieces_of rest
pieces_first (line.Set to w) rest = sym (append_assoc (named_by_work (work_of w)) (Names to ∷ []) (pieces_of rest))
pieces_first (line.Load site to element root index) rest =
    sym (append_assoc (named_by index) (Names to ∷ []) (pieces_of rest))
pieces_first (line.Store site element root index from) rest =
    sym (append_assoc (named_by index) (named_by from ++ []) (pieces_of rest) ∙
    ap (λ x. named_by index ++ x) (append_assoc (named_by from) [] (pieces_of rest)))
pieces_first (line.Clear array) rest = refl
pieces_first (line.If' site test _ chosen _ other) rest =
    if_text (holds_barrier (lines_in chosen) || holds_barrier (lines_in other)) (named_by test)
    (pieces_of (lines_in chosen)) (pieces_of (lines_in other)) (pieces_of rest)
pieces_first (line.Loop' site first _ test answer _ body) rest =
    loop_text (holds_barrier (lines_in test) || holds_barrier (lines_in body)) (pieces_of (lines_in test))
    (named_by answer) (pieces_of (lines_in body)) (pieces_of rest)
pieces_first (line.Barrier site) rest = refl

pub lines_step : (old mid new : Naming) (ls : List Line) (i : ℕ) (l : Line) → i < length ls → l ≡ get_or ls i l →
    LedThrough old mid (pieces_of (lines_of ls)) (pieces_of (lines_of (drop i ls))) →
    Leads mid new (pieces_of (line_before l NoLine))
    → LedThrough old new (pieces_of (lines_of ls)) (pieces_of (lines_of (drop (i + 1) ls)))
lines_step old mid new ls i l lt is t led =
    through_step old mid new (pieces_of (lines_of ls)) (pieces_of (lines_of (drop i ls)))
    (pieces_of (line_before l NoLine)) (pieces_of (lines_of (drop (i + 1) ls))) t
    (ap (λ xs. pieces_of (lines_of xs)) (first_left ls i l lt is) ∙ pieces_first l (lines_of (drop (i + 1) ls))) led

pub atoms_step : (old mid new : Naming) (atoms : List Atom) (i : ℕ) (a : Atom) → i < length atoms →
    a ≡ get_or atoms i a → LedThrough old mid (named_by_all atoms) (named_by_all (drop i atoms)) →
    Leads mid new (named_by a)
    → LedThrough old new (named_by_all atoms) (named_by_all (drop (i + 1) atoms))
atoms_step old mid new atoms i a lt is t led =
    through_step old mid new (named_by_all atoms) (named_by_all (drop i atoms)) (named_by a)
    (named_by_all (drop (i + 1) atoms)) t (ap named_by_all (first_left atoms i a lt is)) led

-- a cut, and the lines behind it
pub part_led : (n0 n1 n2 : Naming) (h : Test) (xs : List Piece) → Leads n0 n1 (cut_before h []) → Leads n1 n2 xs →
    Leads n0 n2 (cut_before h xs)
part_led n0 n1 n2 h xs a b =
    leads_as n0 n2 (cut_before h [] ++ xs) (cut_before h xs) (sym (cut_split h xs))
    (leads_then n0 n1 n2 (cut_before h []) xs a b)

cut_over : (h : Test) (xs ys : List Piece) → cut_before h (xs ++ ys) ≡ cut_before h xs ++ ys
cut_over true xs ys = refl
cut_over false xs ys = refl

-- an if and a loop
pub if_led : (n0 n1 n2 n3 n4 n5 : Naming) (l : Line) (site : ℕ) (test : Atom) (chosen other : Vec Line Global)
    (h : Test) → l ≡ line.If site test chosen other →
    h ≡ (holds_barrier (lines_of chosen.items) || holds_barrier (lines_of other.items))
    → Leads n0 n1 (cut_before h []) → Leads n1 n2 (named_by test) →
    Leads n2 n3 (cut_before h (pieces_of (lines_of chosen.items))) →
    Leads n3 n4 (cut_before h (pieces_of (lines_of other.items))) → Leads n4 n5 (cut_before h [])
    → Leads n0 n5 (pieces_of (line_before l NoLine))
if_led n0 n1 n2 n3 n4 n5 l site test chosen other h e is a b c d f =
    let t = named_by test in
    let C = pieces_of (lines_of chosen.items) in
    let O = pieces_of (lines_of other.items) in
    let z = cut_before h [] in
    let all : List Piece = z ++ (t ++ (cut_before h C ++ (cut_before h O ++ z))) in
    let text : pieces_of (line_before l NoLine) ≡ cut_before h (t ++ cut_before h (C ++ cut_before h (O ++ z))) =
    ap (λ x. pieces_of (line_before x NoLine)) e ∙ (ap pieces_of (if_listed site test chosen other NoLine) ∙
    ap (λ q. cut_before q (t ++ cut_before q (C ++ cut_before q (O ++ cut_before q [])))) (sym is)) in
    leads_as n0 n5 all (pieces_of (line_before l NoLine))
    (sym (text
    ∙ (cut_split h (t ++ cut_before h (C ++ cut_before h (O ++ z)))
    ∙ ap (λ x. z ++ (t ++ x)) (cut_over h C (cut_before h (O ++ z)) ∙
    ap (λ x. cut_before h C ++ x) (cut_over h O z)))))
    (leads_then n0 n1 n5 z (t ++ (cut_before h C ++ (cut_before h O ++ z))) a
    (leads_then n1 n2 n5 t (cut_before h C ++ (cut_before h O ++ z)) b
    (leads_then n2 n3 n5 (cut_before h C) (cut_before h O ++ z) c
    (leads_then n3 n4 n5 (cut_before h O) z d f))))

pub loop_led : (n0 n1 n2 n3 n4 : Naming) (l : Line) (site : ℕ) (first : Test) (test : Vec Line Global)
    (answer : Atom) (body : Vec Line Global) (h : Test) → l ≡ line.Loop site first test answer body →
    h ≡ (holds_barrier (lines_of test.items) || holds_barrier (lines_of body.items))
    → Leads n0 n1 (cut_before h (pieces_of (lines_of test.items))) → Leads n1 n2 (named_by answer) →
    Leads n2 n3 (cut_before h (pieces_of (lines_of body.items))) → Leads n3 n4 (cut_before h [])
    → Leads n0 n4 (pieces_of (line_before l NoLine))
loop_led n0 n1 n2 n3 n4 l site first test answer body h e is a b c d =
    let T = pieces_of (lines_of test.items) in
    let A = named_by answer in
    let B = pieces_of (lines_of body.items) in
    let z = cut_before h [] in
    let all : List Piece = cut_before h T ++ (A ++ (cut_before h B ++ z)) in
    let text : pieces_of (line_before l NoLine) ≡ cut_before h (T ++ (A ++ cut_before h (B ++ z))) =
    ap (λ x. pieces_of (line_before x NoLine)) e ∙ (ap pieces_of (loop_listed site first test answer body NoLine) ∙
    ap (λ q. cut_before q (T ++ (A ++ cut_before q (B ++ cut_before q [])))) (sym is)) in
    leads_as n0 n4 all (pieces_of (line_before l NoLine))
    (sym (text ∙ (cut_over h T (A ++ cut_before h (B ++ z)) ∙
    ap (λ x. cut_before h T ++ (A ++ x)) (cut_over h B z))))
    (leads_then n0 n1 n4 (cut_before h T) (A ++ (cut_before h B ++ z)) a
    (leads_then n1 n2 n4 A (cut_before h B ++ z) b
    (leads_then n2 n3 n4 (cut_before h B) z c d)))
