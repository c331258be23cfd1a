-- Trees by the number of their parts.
use Rattle.std.proofs.Common.{ℕ, ◌≡◌, ◌<◌, ◌≤◌, List, [], ◌∷◌, length, get_or, refl, ap, sym, ◌∙◌, arith, None, Option}
use Rattle.cl_tree.specs.declared.tree.Tree.{Tree}
use Rattle.cl_tree.specs.declared.tree.Tree.TheViews.{out-Tree}
use Rattle.cl_tree.specs.Syntax.{node, Forest, none, more, view, views}
use Rattle.cl_meaning.specs.declared.types.Declared.{Declared}
use Rattle.cl_meaning.specs.Spelling.{declared_in}
use Rattle.cl_meaning.proofs.Views.{view_out}
use Rattle.cl_meaning.specs.declared.constant.Constant.{Constant}
use Rattle.cl_meaning.specs.Constants.{word_constant, prefixed_constant, joined_constant, selected_constant}
use Rattle.cl_meaning.specs.Constants.{constant_of}

none_is : (ts : List Tree) → length ts < 1 → views ts ≡ none
none_is [] h = refl
none_is (t ∷ ts) h = absurd (omega (arith, h))

one_is : (ts : List Tree) (a : Tree) → 1 ≤ length ts → length ts < 2 → a ≡ get_or ts 0 a → views ts ≡ more (view a) none
one_is [] a g h e = absurd (omega (arith, g))
one_is (x ∷ []) a g h e = ap (λ z. more (view z) none) (sym e)
one_is (x ∷ (y ∷ zs)) a g h e = absurd (omega (arith, h))

two_are : (ts : List Tree) (a b : Tree) → 2 ≤ length ts → length ts < 3 → a ≡ get_or ts 0 a → b ≡ get_or ts 1 b →
    views ts ≡ more (view a) (more (view b) none)
two_are [] a b g h e d = absurd (omega (arith, g))
two_are (x ∷ []) a b g h e d = absurd (omega (arith, g))
two_are (x ∷ (y ∷ [])) a b g h e d =
    ap (λ z. more (view z) (more (view y) none)) (sym e) ∙ ap (λ z. more (view a) (more (view z) none)) (sym d)
two_are (x ∷ (y ∷ (z ∷ zs))) a b g h e d = absurd (omega (arith, h))

three_are : (ts : List Tree) (a b c : Tree) → 3 ≤ length ts → length ts < 4 → a ≡ get_or ts 0 a → b ≡ get_or ts 1 b →
    c ≡ get_or ts 2 c → views ts ≡ more (view a) (more (view b) (more (view c) none))
three_are [] a b c g h e d k = absurd (omega (arith, g))
three_are (x ∷ []) a b c g h e d k = absurd (omega (arith, g))
three_are (x ∷ (y ∷ [])) a b c g h e d k = absurd (omega (arith, g))
three_are (x ∷ (y ∷ (z ∷ []))) a b c g h e d k =
    ap (λ u. more (view u) (more (view y) (more (view z) none))) (sym e) ∙
    ap (λ u. more (view a) (more (view u) (more (view z) none))) (sym d) ∙
    ap (λ u. more (view a) (more (view b) (more (view u) none))) (sym k)
three_are (x ∷ (y ∷ (z ∷ (w ∷ ws)))) a b c g h e d k = absurd (omega (arith, h))

abbrev with_parts : Tree → Forest → Option Constant
with_parts t ps = constant_of (node (out-Tree t).form (out-Tree t).word (out-Tree t).first (out-Tree t).last ps)

-- the value of a tree whose parts are these
by_parts : (t : Tree) (ts : List Tree) (ps : Forest) → ts ≡ (out-Tree t).parts.items → views ts ≡ ps →
    with_parts t ps ≡ constant_of (view t)
by_parts t ts ps e h = ap (with_parts t) (sym h ∙ ap views e) ∙ sym (ap constant_of (view_out t))

pub of_none : (t : Tree) (ts : List Tree) (w : List ℕ) (r : Option Constant) → ts ≡ (out-Tree t).parts.items →
    length ts < 1 → w ≡ (out-Tree t).word
    → r ≡ word_constant (out-Tree t).form w → r ≡ constant_of (view t)
of_none t ts w r e h k q = q ∙ ap (word_constant (out-Tree t).form) k ∙ by_parts t ts none e (none_is ts h)

pub of_one : (t a : Tree) (ts : List Tree) (w : List ℕ) (d : Option Declared) (x r : Option Constant) →
    ts ≡ (out-Tree t).parts.items → 1 ≤ length ts → length ts < 2 → a ≡ get_or ts 0 a
    → w ≡ (out-Tree t).word → d ≡ declared_in (view a) → x ≡ constant_of (view a) →
    r ≡ prefixed_constant (out-Tree t).form w d x → r ≡ constant_of (view t)
of_one t a ts w d x r e g h i k m n q =
    q ∙ ap (λ (v : List ℕ). prefixed_constant (out-Tree t).form v d x) k
    ∙ ap (λ (v : Option Declared). prefixed_constant (out-Tree t).form (out-Tree t).word v x) m
    ∙ ap (prefixed_constant (out-Tree t).form (out-Tree t).word (declared_in (view a))) n
    ∙ by_parts t ts (more (view a) none) e (one_is ts a g h i)

pub of_two : (t a b : Tree) (ts : List Tree) (w : List ℕ) (d : Option Declared) (x y r : Option Constant) →
    ts ≡ (out-Tree t).parts.items → 2 ≤ length ts → length ts < 3
    → a ≡ get_or ts 0 a → b ≡ get_or ts 1 b
    → w ≡ (out-Tree t).word → d ≡ declared_in (view a) → x ≡ constant_of (view a) → y ≡ constant_of (view b) →
    r ≡ joined_constant (out-Tree t).form w d x y → r ≡ constant_of (view t)
of_two t a b ts w d x y r e g h i j k m n o q =
    q ∙ ap (λ (v : List ℕ). joined_constant (out-Tree t).form v d x y) k
    ∙ ap (λ (v : Option Declared). joined_constant (out-Tree t).form (out-Tree t).word v x y) m
    ∙ ap (λ (v : Option Constant). joined_constant (out-Tree t).form (out-Tree t).word (declared_in (view a)) v y) n
    ∙ ap (joined_constant (out-Tree t).form (out-Tree t).word (declared_in (view a)) (constant_of (view a))) o
    ∙ by_parts t ts (more (view a) (more (view b) none)) e (two_are ts a b g h i j)

pub of_three : (t a b c : Tree) (ts : List Tree) (x y z r : Option Constant) → ts ≡ (out-Tree t).parts.items →
    3 ≤ length ts → length ts < 4
    → a ≡ get_or ts 0 a → b ≡ get_or ts 1 b → c ≡ get_or ts 2 c
    → x ≡ constant_of (view a) → y ≡ constant_of (view b) → z ≡ constant_of (view c) →
    r ≡ selected_constant (out-Tree t).form x y z → r ≡ constant_of (view t)
of_three t a b c ts x y z r e g h i j k m n o q =
    q ∙ ap (λ (v : Option Constant). selected_constant (out-Tree t).form v y z) m
    ∙ ap (λ (v : Option Constant). selected_constant (out-Tree t).form (constant_of (view a)) v z) n
    ∙ ap (selected_constant (out-Tree t).form (constant_of (view a)) (constant_of (view b))) o
    ∙ by_parts t ts (more (view a) (more (view b) (more (view c) none))) e (three_are ts a b c g h i j k)

pub of_many : (t : Tree) (ts : List Tree) → ts ≡ (out-Tree t).parts.items → 4 ≤ length ts → None ≡ constant_of (view t)
of_many t ts e h = go ts h ∙ by_parts t ts (views ts) e refl
  where
    go : (us : List Tree) → 4 ≤ length us → None ≡ with_parts t (views us)
    go [] g = absurd (omega (arith, g))
    go (x ∷ []) g = absurd (omega (arith, g))
    go (x ∷ (y ∷ [])) g = absurd (omega (arith, g))
    go (x ∷ (y ∷ (z ∷ []))) g = absurd (omega (arith, g))
    go (x ∷ (y ∷ (z ∷ (w ∷ ws)))) g = refl
