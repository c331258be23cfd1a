-- Pieces of outlines in a row.
use Rattle.std.proofs.Common.{◌≡◌, ℕ, ◌+◌, ◌-◌, ◌<◌, List, [], ◌∷◌, ◌++◌, length, get_or, drop, refl, ap, ◌∙◌, arith}
use Rattle.std.proofs.Common.{Global}
use Rattle.std.specs.declared.vec.Vec.{Vec}
use mathlib.Core.Former.{Count}
use Rattle.cl_model.specs.Calls.{CallSite}
use Rattle.ctx_plan.specs.declared.outline.Piece.{Piece, Row_of-Piece, end_of-Piece, more_of-Piece}
use Rattle.ctx_plan.specs.declared.outline.Piece.{items-the_row-Piece, items_hidden-the_row-Piece-0}
use Rattle.ctx_plan.specs.declared.outline.Piece.TheVariants as piece
use Rattle.ctx_plan.specs.Outline.{Outline, NoPiece, BlockThen, calls_then, piece_then, row_outline, pieces_then}
use Rattle.ctx_plan.specs.Points.{calls_onto}
use Rattle.ctx_plan.proofs.Onto.{first_left}

row_pieces : (n : _) (k : Row_of-Piece n) → row_outline k ≡ pieces_then (items-the_row-Piece n k) NoPiece
row_pieces _ end_of-Piece = refl
row_pieces _ (more_of-Piece p row) = ap (piece_then p) (row_pieces _ row)

abbrev block_row : Piece → (n : Count) × Row_of-Piece n
block_row (piece.Block' _ row) = (_, row)
block_row _ = (_, end_of-Piece)

-- a block is the pieces in it
pub block_piece : (v : Vec Piece Global) (rest : Outline) →
    piece_then (piece.Block v) rest ≡ BlockThen (pieces_then v.items NoPiece) rest
block_piece v rest =
    let r = block_row (piece.Block v) in
    ap (λ x. BlockThen x rest) (row_pieces r.0 r.1 ∙ ap (λ xs. pieces_then xs NoPiece) (items_hidden-the_row-Piece-0 v))

pub pieces_then-append : (xs ys : List Piece) (rest : Outline) →
    pieces_then (xs ++ ys) rest ≡ pieces_then xs (pieces_then ys rest)
pieces_then-append [] ys rest = refl
pieces_then-append (p ∷ xs) ys rest = ap (piece_then p) (pieces_then-append xs ys rest)

-- calls put behind pieces
pub calls_put : (calls : List CallSite) (ps : List Piece) (rest : Outline) →
    pieces_then (calls_onto calls ps) rest ≡ pieces_then ps (calls_then calls rest)
calls_put [] ps rest = refl
calls_put (c ∷ calls) ps rest = calls_put calls (ps ++ piece.Calls c.site c.function ∷ []) rest ∙
    pieces_then-append ps (piece.Calls c.site c.function ∷ []) (calls_then calls rest)

-- what is left of a block, from its first piece on
pub left_then : (block : List Piece) (i : ℕ) (p : Piece) (rest : Outline) → i < length block → p ≡ get_or block i p →
    pieces_then (drop i block) rest ≡ piece_then p (pieces_then (drop (i + 1) block) rest)
left_then block i p rest lt is = ap (λ xs. pieces_then xs rest) (first_left block i p lt is)

-- the same from the piece before
pub before_then : (block : List Piece) (i : ℕ) (p : Piece) (rest : Outline) → 0 < i → i - 1 < length block →
    p ≡ get_or block (i - 1) p → pieces_then (drop (i - 1) block) rest ≡ piece_then p (pieces_then (drop i block) rest)
before_then block i p rest pos lt is =
    let back : i - 1 + 1 ≡ i = omega arith in
    left_then block (i - 1) p rest lt is ∙ ap (λ n. piece_then p (pieces_then (drop n block) rest)) back
