-- The arguments that parameters take.
use Rattle.std.proofs.Common.{◌≡◌, ℕ, ◌+◌, ◌<◌, List, [], ◌∷◌, ◌++◌, length, get_or, drop, map, Option, sym, ap, ap₂}
use Rattle.std.proofs.Common.{◌∙◌, append-nil, add-one, drop-cons}
use Rattle.cl_model.specs.declared.program.Root.{Root}
use Rattle.cl_model.specs.declared.program.Arg.{Arg}
use Rattle.cl_model.specs.Tree as tree
use Rattle.cl_model.specs.View.{root_of, argument_of}
use Rattle.cl_model.specs.Listed.{listed_roots, listed_arguments}
use Rattle.cl_meaning.specs.declared.kind.Parameter.{Parameter}
use Rattle.cl_meaning.specs.Expressions.{root_in, roots_passed, passed, all_passed}
use Rattle.cl_fragment.specs.declared.fragment.Piece as rust
use Rattle.cl_fragment.specs.View.{piece_of}
use Rattle.cl_fragment.proofs.Lists.{arguments_then, arguments_none, arguments_more, arguments_end, roots_more}
use Rattle.cl_fragment.proofs.Lists.{roots_end}

pub drop_step : {A : Type 0} (xs : List A) (i : ℕ) (d : A) → i < length xs → drop i xs ≡ get_or xs i d ∷ drop (i + 1) xs
drop_step xs i d h = rw (add-one, drop-cons xs i d)

-- ---- one more

pub roots_step : (old new : List Arg) (a : Arg) (qs qs' : List Parameter) (q : Parameter) (ps ps' : List rust.Piece)
    (p : rust.Piece) (all : List (Option Root))
    → new ≡ old ++ a ∷ [] → root_of a ≡ root_in p.kind → ps ≡ p ∷ ps' → qs ≡ q ∷ qs'
    → listed_roots old ++ roots_passed qs (map piece_of ps) ≡ all
    → listed_roots new ++ roots_passed qs' (map piece_of ps') ≡ all
roots_step old new a qs qs' q ps ps' p all grown root pieces parameters h =
    ap (λ xs. listed_roots xs ++ roots_passed qs' (map piece_of ps')) grown
    ∙ roots_more old a (roots_passed qs' (map piece_of ps'))
    ∙ ap (λ r. listed_roots old ++ (r ∷ roots_passed qs' (map piece_of ps'))) root
    ∙ ap₂ (λ (xs : List Parameter) (ys : List rust.Piece). listed_roots old ++ roots_passed xs (map piece_of ys))
    (sym parameters) (sym pieces)
    ∙ h

pub arguments_step : (old new : List Arg) (a : Arg) (qs qs' : List Parameter) (q : Parameter)
    (ps ps' : List rust.Piece) (p : rust.Piece) (all : tree.Expressions)
    → new ≡ old ++ a ∷ [] → argument_of a ≡ passed q (piece_of p) → ps ≡ p ∷ ps' → qs ≡ q ∷ qs'
    → arguments_then (listed_arguments old) (all_passed qs (map piece_of ps)) ≡ all
    → arguments_then (listed_arguments new) (all_passed qs' (map piece_of ps')) ≡ all
arguments_step old new a qs qs' q ps ps' p all grown value pieces parameters h =
    ap (λ xs. arguments_then (listed_arguments xs) (all_passed qs' (map piece_of ps'))) grown
    ∙ arguments_more old a (all_passed qs' (map piece_of ps'))
    ∙ ap (λ e. arguments_then (listed_arguments old) (tree.more e (all_passed qs' (map piece_of ps')))) value
    ∙ ap₂ (λ (xs : List Parameter) (ys : List rust.Piece). arguments_then (listed_arguments old)
    (all_passed xs (map piece_of ys))) (sym parameters) (sym pieces)
    ∙ h

-- ---- no more

pub roots_done : (as' : List Arg) (qs : List Parameter) (ps : List rust.Piece) (all : List (Option Root))
    → ps ≡ [] → listed_roots as' ++ roots_passed qs (map piece_of ps) ≡ all → listed_roots as' ≡ all
roots_done as' qs ps all none h =
    sym (append-nil (listed_roots as'))
    ∙ ap (λ t. listed_roots as' ++ t) (sym (roots_end qs))
    ∙ ap (λ xs. listed_roots as' ++ roots_passed qs (map piece_of xs)) (sym none)
    ∙ h

pub arguments_done : (as' : List Arg) (qs : List Parameter) (ps : List rust.Piece) (all : tree.Expressions)
    → ps ≡ [] → arguments_then (listed_arguments as') (all_passed qs (map piece_of ps)) ≡ all →
    listed_arguments as' ≡ all
arguments_done as' qs ps all none h =
    sym (arguments_none (listed_arguments as'))
    ∙ ap (arguments_then (listed_arguments as')) (sym (arguments_end qs))
    ∙ ap (λ xs. arguments_then (listed_arguments as') (all_passed qs (map piece_of xs))) (sym none)
    ∙ h

pub roots_all : (as' : List Arg) (qs : List Parameter) (ps : List rust.Piece) (all : List (Option Root))
    → qs ≡ [] → listed_roots as' ++ roots_passed qs (map piece_of ps) ≡ all → listed_roots as' ≡ all
roots_all as' qs ps all none h =
    sym (append-nil (listed_roots as'))
    ∙ ap (λ xs. listed_roots as' ++ roots_passed xs (map piece_of ps)) (sym none)
    ∙ h

pub arguments_all : (as' : List Arg) (qs : List Parameter) (ps : List rust.Piece) (all : tree.Expressions)
    → qs ≡ [] → arguments_then (listed_arguments as') (all_passed qs (map piece_of ps)) ≡ all →
    listed_arguments as' ≡ all
arguments_all as' qs ps all none h =
    sym (arguments_none (listed_arguments as'))
    ∙ ap (λ xs. arguments_then (listed_arguments as') (all_passed xs (map piece_of ps))) (sym none)
    ∙ h
