-- Reading nodes one after the other, as a loop does.
use Rattle.std.proofs.Common.{◌≡◌, ℕ, suc, ◌-◌, ◌+◌, ◌≤◌, ◌<◌, List, [], ◌∷◌, ◌++◌, length, refl, sym, ap, ◌∙◌}
use Rattle.std.proofs.Common.{arith, eqb, true, false, Option, Some, None}
use Rattle.std.proofs.lemmas.Bool.{eqb-true}
use Rattle.lane_code.specs.declared.code.Node.{Node}
use Rattle.lane_code.specs.Program.{work_of, Work, Works, idle, then_work}
use Rattle.wg_object.specs.Nodes.{works_in}
use Rattle.wg_object.specs.Reading.{◌>>=◌, works_at}

-- works behind nodes
abbrev pub works_behind : List Node → Works → Works
works_behind [] w = w
works_behind (n ∷ nodes) w = then_work (work_of n) (works_behind nodes w)

abbrev pub behind : List Node → Works × List ℕ → Option (Works × List ℕ)
behind front x = Some (works_behind front x.0, x.1)

-- what was read before, and what is still read
abbrev pub joined : List Node → Option (Works × List ℕ) → Option (Works × List ℕ)
joined front read = read >>= behind front

one_more : (front : List Node) (n : Node) (w : Works) →
    works_behind (front ++ n ∷ []) w ≡ works_behind front (then_work (work_of n) w)
one_more [] n w = refl
one_more (m ∷ front) n w = ap (λ (x : Works). then_work (work_of m) x) (one_more front n w)

all_in : (front : List Node) → works_behind front idle ≡ works_in front
all_in [] = refl
all_in (n ∷ front) = ap (λ (x : Works). then_work (work_of n) x) (all_in front)

regroup : (front : List Node) (n : Node) (o : Option (Works × List ℕ)) →
    joined front (o >>= λ others. Some (then_work (work_of n) others.0, others.1)) ≡ joined (front ++ n ∷ []) o
regroup front n None = refl
regroup front n (Some x) = ap (λ (w : Works). Some (w, x.1)) (sym (one_more front n x.0))

pub nodes_go_on : (read : List ℕ → Option (Work × List ℕ)) (front : List Node) (count i : ℕ) (bytes after : List ℕ)
    (n : Node) (total : Option (Works × List ℕ)) → i < count → eqb (length bytes) 0 ≡ false →
    Some (work_of n, after) ≡ read bytes → joined front (works_at read (count - i) bytes) ≡ total →
    joined (front ++ n ∷ []) (works_at read (count - (i + 1)) after) ≡ total
unfolding works_at
nodes_go_on read front count i [] after n total lt some e so_far = absurd cc
nodes_go_on read front count i (b ∷ bytes) after n total lt some e so_far =
    let k : count - i ≡ suc (count - (i + 1)) = omega arith in
    let one : joined front (works_at read (count - i) (b ∷ bytes)) ≡
    joined (front ++ n ∷ []) (works_at read (count - (i + 1)) after) =
    rw (k, ← e) (regroup front n (works_at read (count - (i + 1)) after)) in
    sym one ∙ so_far

pub nodes_end : (read : List ℕ → Option (Work × List ℕ)) (front : List Node) (count i : ℕ) (bytes : List ℕ)
    (total : Option (Works × List ℕ)) → i < count → eqb (length bytes) 0 ≡ true →
    joined front (works_at read (count - i) bytes) ≡ total → Some (works_in front, bytes) ≡ total
unfolding works_at
nodes_end read front count i [] total lt none so_far =
    let k : count - i ≡ suc (count - (i + 1)) = omega arith in
    let one : joined front (works_at read (count - i) []) ≡ Some (works_in front, []) = rw (k, all_in front) refl in
    sym one ∙ so_far
nodes_end read front count i (b ∷ bytes) total lt none so_far =
    absurd (omega (arith, eqb-true (length (b ∷ bytes)) 0 none))

pub nodes_done : (read : List ℕ → Option (Work × List ℕ)) (front : List Node) (count i : ℕ) (bytes : List ℕ)
    (total : Option (Works × List ℕ)) → count ≤ i → joined front (works_at read (count - i) bytes) ≡ total →
    Some (works_in front, bytes) ≡ total
unfolding works_at
nodes_done read front count i bytes total le so_far =
    let k : count - i ≡ 0 = omega arith in
    let one : joined front (works_at read (count - i) bytes) ≡ Some (works_in front, bytes) =
    rw (k, all_in front) refl in
    sym one ∙ so_far
