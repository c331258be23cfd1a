-- An else behind a statement that was read cannot belong to an if in it.
use Rattle.std.proofs.Common.{◌≡◌, Bool, true, false, cond, List, refl, ap, subst, ◌∙◌}
use Rattle.cl_tree.specs.declared.terminal.Terminal.{Terminal}
use Rattle.cl_tree.specs.declared.terminal.Terminal.TheVariants as terminals
use Rattle.cl_tree.specs.declared.terminal.Leaf.{Leaf}
use Rattle.cl_tree.specs.declared.tree.Form.TheVariants as forms
use Rattle.cl_tree.specs.Syntax.{Syntax, Forest, none, more, joined}
use Rattle.cl_tree.specs.Nodes.{Spot, for_node}
use Rattle.cl_tree.specs.Grammar.{closed, closed_last, is_empty}
use Rattle.cl_read.specs.Reading.{Out, Got, Wrong, Deep, Reader, after, ◌>>=◌, done, deep, wrong, begins, is, choose}
use Rattle.cl_read.specs.Reading.{Readers, statement_of, block_of, if_of, while_of, do_of, for_of, labelled}
use Rattle.cl_read.specs.Reading.{switch_of, case_of, default_of, leaving, leave_of, return_of, simple_of, no_room}
use Rattle.cl_read.proofs.Sound.{Ends}

got_same : (a t : Syntax) (ts rest : List Leaf) → done a ts ≡ Got t rest → (a ≡ t) × (ts ≡ rest)
got_same a t ts rest e = (cc, cc)

ends_done : (t : Syntax) → closed t ≡ true → Ends (done t)
ends_done t h = λ ts rest u e b. subst (λ v. closed v ≡ true) (got_same t u ts rest e).0 h

module _ {A : Type 0} (p : Reader A) (g : A → Reader Syntax) where
  ends_then_at : ((a : A) → Ends (g a)) → (o : Out A) (rest : List Leaf) (t : Syntax) → after o g ≡ Got t rest →
      begins (is terminals.Else) rest ≡ true → closed t ≡ true
  ends_then_at h (Got a mid) rest t e b = h a mid rest t e b
  ends_then_at h (Wrong k) rest t e b = absurd cc
  ends_then_at h (Deep k) rest t e b = absurd cc

  ends_then : ((a : A) → Ends (g a)) → Ends (p >>= g)
  ends_then h = λ ts rest t e b. ends_then_at h (p ts) rest t e b

ends_map_at : (f : Syntax → Syntax) → ((u : Syntax) → closed u ≡ true → closed (f u) ≡ true) → (p : Reader Syntax) →
    Ends p → (ts : List Leaf) (o : Out Syntax) → p ts ≡ o → (rest : List Leaf) (t : Syntax) →
    after o (λ u. done (f u)) ≡ Got t rest → begins (is terminals.Else) rest ≡ true → closed t ≡ true
ends_map_at f c p h ts (Got a mid) q rest t e b =
    let s = got_same (f a) t mid rest e in
    subst (λ v. closed v ≡ true) s.0 (c a (h ts rest a (subst (λ m. p ts ≡ Got a m) s.1 q) b))
ends_map_at f c p h ts (Wrong k) q rest t e b = absurd cc
ends_map_at f c p h ts (Deep k) q rest t e b = absurd cc

ends_map : (f : Syntax → Syntax) → ((u : Syntax) → closed u ≡ true → closed (f u) ≡ true) → (p : Reader Syntax) →
    Ends p → Ends (p >>= λ u. done (f u))
ends_map f c p h = λ ts rest t e b. ends_map_at f c p h ts (p ts) refl rest t e b

module _ (test : Terminal → Bool) (p q : Reader Syntax) where
  ends_choose_at : Ends p → Ends q → (ts rest : List Leaf) (t : Syntax) (b : Bool) →
      cond b (p ts) (q ts) ≡ Got t rest → begins (is terminals.Else) rest ≡ true → closed t ≡ true
  ends_choose_at h k ts rest t true e b = h ts rest t e b
  ends_choose_at h k ts rest t false e b = k ts rest t e b

  ends_choose : Ends p → Ends q → Ends (choose test p q)
  ends_choose h k = λ ts rest t e b. ends_choose_at h k ts rest t (begins test ts) e b

ends_last_at : (p : Reader Syntax) (a : Syntax) → Ends p → (ts rest : List Leaf) (t : Syntax) (b : Bool) →
    begins (is terminals.Else) ts ≡ b → cond b (p ts) (done a ts) ≡ Got t rest →
    begins (is terminals.Else) rest ≡ true → closed t ≡ true
ends_last_at p a h ts rest t true q e b = h ts rest t e b
ends_last_at p a h ts rest t false q e b =
    let s : begins (is terminals.Else) ts ≡ begins (is terminals.Else) rest =
    ap (begins (is terminals.Else)) (got_same a t ts rest e).1 in
    absurd cc

ends_last : (p : Reader Syntax) (a : Syntax) → Ends p → Ends (choose (is terminals.Else) p (done a))
ends_last p a h = λ ts rest t e b. ends_last_at p a h ts rest t (begins (is terminals.Else) ts) refl e b

-- the last tree of a list, behind others
last_empty : (f : Forest) (s : Syntax) → is_empty (joined f (more s none)) ≡ false
last_empty none s = refl
last_empty (more t f) s = refl

pub last_joined : (f : Forest) (s : Syntax) → closed_last (joined f (more s none)) ≡ closed s
last_joined none s = refl
last_joined (more t f) s = rw (last_empty f s) (last_joined f s)

joined_twice : (f g : Forest) (s : Syntax) → closed_last (joined f (joined g (more s none))) ≡ closed s
joined_twice none g s = last_joined g s
joined_twice (more t f) g s = rw (not_empty f g s) (joined_twice f g s)
  where
    not_empty : (f g : Forest) (s : Syntax) → is_empty (joined f (joined g (more s none))) ≡ false
    not_empty none g s = last_empty g s
    not_empty (more t f) g s = refl

pub for_closed : (f o : Spot) (d : Syntax) (ts : Forest) (s : Spot) (us : Forest) (c : Spot) (b : Syntax) →
    closed (for_node f o d ts s us c b) ≡ closed b
for_closed f o d ts s us c b = joined_twice (more d ts) us b

pub for_ends : (f o : Spot) (d : Syntax) (ts : Forest) (s : Spot) (us : Forest) (c : Spot) (b : Syntax) →
    closed b ≡ true → closed (for_node f o d ts s us c b) ≡ true
for_ends f o d ts s us c b h = for_closed f o d ts s us c b ∙ h

module _ (low : Readers) (ends : Ends low.statement) where
  ends_block : Ends (block_of low)
  unfolding block_of
  ends_block = search (ends_then, ends_done) depth 16

  ends_if : Ends (if_of low)
  unfolding if_of
  ends_if = search (ends_choose, ends_then, ends_done, ends_last, ends_map, ends) depth 16

  ends_while : Ends (while_of low)
  unfolding while_of
  ends_while = search (ends_choose, ends_then, ends_done, ends_last, ends_map, ends) depth 16

  ends_do : Ends (do_of low)
  unfolding do_of
  ends_do = search (ends_then, ends_done) depth 16

  ends_for : Ends (for_of low)
  unfolding for_of
  ends_for = search (ends_choose, ends_then, ends_done, ends_last, ends_map, for_ends, ends) depth 16

  ends_switch : Ends (switch_of low)
  unfolding switch_of
  ends_switch = search (ends_then, ends_done) depth 16

  ends_case : Ends (case_of low)
  unfolding case_of
  ends_case = search (ends_choose, ends_then, ends_done, ends_last, ends_map, ends) depth 16

  ends_default : Ends (default_of low)
  unfolding default_of
  ends_default = search (ends_choose, ends_then, ends_done, ends_last, ends_map, ends) depth 16

  ends_break : Ends (leave_of low terminals.Break forms.BreakNode)
  unfolding leave_of
  ends_break = search (ends_then, ends_done) depth 16

  ends_continue : Ends (leave_of low terminals.Continue forms.ContinueNode)
  unfolding leave_of
  ends_continue = search (ends_then, ends_done) depth 16

  ends_return : Ends (return_of low)
  unfolding return_of
  ends_return = search (ends_then, ends_done) depth 16

  ends_simple : Ends (simple_of low)
  unfolding simple_of
  ends_simple = search (ends_then, ends_done) depth 16

  pub ends_statement : Ends (statement_of low)
  unfolding statement_of labelled leaving
  ends_statement = ends_choose _ _ _ ends_block
      (ends_choose _ _ _ ends_if (ends_choose _ _ _ ends_while (ends_choose _ _ _ ends_do (ends_choose _ _ _ ends_for
      (ends_choose _ _ _ ends_switch (ends_choose _ _ _ ends_case (ends_choose _ _ _ ends_default
      (ends_choose _ _ _ ends_break (ends_choose _ _ _ ends_continue
      (ends_choose _ _ _ ends_return ends_simple))))))))))

pub no_room_ends : (test : Terminal → Bool) → Ends (no_room test)
no_room_ends test = ends_choose test deep wrong (λ ts rest t e b. absurd cc) (λ ts rest t e b. absurd cc)
