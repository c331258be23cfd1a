-- Points of trees, put behind others.
use Rattle.std.proofs.Common.{◌≡◌, ℕ, suc, ◌+◌, ◌<◌, true, false, List, ◌∷◌, length, get_or, drop, Some, ap, sym, ◌∙◌}
use Rattle.std.proofs.Common.{arith, drop-cons, if◌then◌else◌}
use Rattle.std.specs.Str.{bytes_eq}
use Rattle.cl_tree.specs.declared.tree.Tree.{Tree}
use Rattle.cl_tree.specs.declared.tree.Tree.TheViews.{out-Tree}
use Rattle.cl_tree.specs.Syntax.{Syntax, Forest, more, view, views}
use Rattle.cl_meaning.proofs.Views.{view_out}
use Rattle.cl_meaning.specs.Spelling.{name_in}
use Rattle.cl_limits.specs.Heights.{is_function, functions_among, functions_in, number_from}
use Rattle.cl_limits.proofs.Lists.{chosen, not_chosen}

pub views_dropped : (ts : List Tree) (i : ℕ) (t : Tree) → i < length ts → t ≡ get_or ts i t →
    views (drop i ts) ≡ more (view t) (views (drop (i + 1) ts))
views_dropped ts i t h e =
    let one : suc i ≡ i + 1 = omega arith in
    ap views (drop-cons ts i t h) ∙ ap (λ (u : Tree). more (view u) (views (drop (suc i) ts))) (sym e) ∙
    ap (λ j. more (view t) (views (drop j ts))) one

functions_out : (t : Tree) (ts : Forest) →
    functions_among (more (view t) ts) ≡ (if is_function (out-Tree t).form then view t ∷
    functions_among ts else functions_among ts)
functions_out t ts =
    ap (λ (s : Syntax). functions_among (more s ts)) (view_out t)
    ∙ ap (λ (s : Syntax). if is_function (out-Tree t).form then s ∷ functions_among ts else functions_among ts)
    (sym (view_out t))

-- what is left of some trees, one further: behind a function, and behind another tree
pub function_next : (ts : List Tree) (i : ℕ) (t : Tree) → i < length ts → t ≡ get_or ts i t →
    is_function (out-Tree t).form ≡ true →
    functions_among (views (drop i ts)) ≡ view t ∷ functions_among (views (drop (i + 1) ts))
function_next ts i t h e b =
    let rest : Forest = views (drop (i + 1) ts) in
    ap (λ (z : Forest). functions_among z) (views_dropped ts i t h e) ∙
    (functions_out t rest ∙ chosen (is_function (out-Tree t).form) (view t ∷ functions_among rest)
    (functions_among rest) b)

pub other_next : (ts : List Tree) (i : ℕ) (t : Tree) → i < length ts → t ≡ get_or ts i t →
    is_function (out-Tree t).form ≡ false →
    functions_among (views (drop i ts)) ≡ functions_among (views (drop (i + 1) ts))
other_next ts i t h e b =
    let rest : Forest = views (drop (i + 1) ts) in
    ap (λ (z : Forest). functions_among z) (views_dropped ts i t h e) ∙
    (functions_out t rest ∙ not_chosen (is_function (out-Tree t).form) (view t ∷ functions_among rest)
    (functions_among rest) b)

pub functions_out_of : (t : Tree) → functions_in (view t) ≡ functions_among (views (out-Tree t).parts.items)
functions_out_of t = ap functions_in (view_out t)

named_out : (t : Tree) (name : List ℕ) (n : ℕ) (fs : List Syntax) →
    number_from name n (view t ∷ fs) ≡ (if bytes_eq (name_in (out-Tree t).word) name then Some n else number_from name
    (suc n) fs)
named_out t name n fs = ap (λ (s : Syntax). number_from name n (s ∷ fs)) (view_out t)

pub number_here : (t : Tree) (name : List ℕ) (n : ℕ) (fs : List Syntax) →
    bytes_eq (name_in (out-Tree t).word) name ≡ true → number_from name n (view t ∷ fs) ≡ Some n
number_here t name n fs h =
    named_out t name n fs ∙ chosen (bytes_eq (name_in (out-Tree t).word) name) (Some n) (number_from name (suc n) fs) h

pub number_behind : (t : Tree) (name : List ℕ) (n : ℕ) (fs : List Syntax) →
    bytes_eq (name_in (out-Tree t).word) name ≡ false → number_from name n (view t ∷ fs) ≡ number_from name (n + 1) fs
number_behind t name n fs h =
    let one : suc n ≡ n + 1 = omega arith in
    named_out t name n fs ∙ (not_chosen (bytes_eq (name_in (out-Tree t).word) name) (Some n)
    (number_from name (suc n) fs) h ∙ ap (λ j. number_from name j fs) one)
