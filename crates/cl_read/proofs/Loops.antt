-- The loop over a list, one member at a time.
use Rattle.std.proofs.Common.{◌≡◌, Bool, true, false, List, [], ◌∷◌, ◌++◌, refl, sym, ap, subst, ◌∙◌, append_assoc}
use Rattle.std.proofs.lemmas.List.{append-nil}
use Rattle.std.specs.Borrow.{Bor}
use Rattle.cl_tree.specs.declared.terminal.Terminal.{Terminal}
use Rattle.cl_tree.specs.declared.terminal.Leaf.{Leaf}
use Rattle.cl_tree.specs.Syntax.{Forest, none, more, joined}
use Rattle.cl_tree.specs.Nodes.{Spot}
use Rattle.cl_read.specs.declared.cursor.Fail.{Fail}
use Rattle.cl_read.specs.declared.cursor.Fail.TheVariants as fails
use Rattle.cl_read.specs.Gives.{Fails, spot_of, spots, with_front}
use Rattle.cl_read.specs.Reading.{Out, Got, Wrong, Deep, Reader, after, done, begins, Listing, empty, appended, all_of}
use Rattle.cl_read.proofs.ListRules.{Shrinks, all_stops, all_goes, onward}

pub joined_none : (f : Forest) → joined f none ≡ f
joined_none none = refl
joined_none (more t f) = ap (more t) (joined_none f)

joined_again : (f g h : Forest) → joined (joined f g) h ≡ joined f (joined g h)
joined_again none g h = refl
joined_again (more t f) g h = ap (more t) (joined_again f g h)

pub front_empty : (o : Out Listing) → with_front empty o ≡ o
front_empty (Got l rest) = refl
front_empty (Wrong n) = refl
front_empty (Deep n) = refl

appended_empty : (a : Listing) → appended a empty ≡ a
appended_empty a =
    ap (λ (w : List Spot). record { own = w; parts = joined a.parts none }) (append-nil a.own) ∙
    ap (λ (f : Forest). record { own = a.own; parts = f }) (joined_none a.parts)

appended_again : (a b c : Listing) → appended a (appended b c) ≡ appended (appended a b) c
appended_again a b c =
    ap (λ (w : List Spot). record { own = w; parts = joined a.parts (joined b.parts c.parts) })
    (sym (append_assoc a.own b.own c.own)) ∙
    ap (λ (f : Forest). record { own = (a.own ++ b.own) ++ c.own; parts = f })
    (sym (joined_again a.parts b.parts c.parts))

front_again : (a b : Listing) (o : Out Listing) → with_front a (after o (λ l. done (appended b l))) ≡
    with_front (appended a b) o
front_again a b (Got l rest) = ap (λ (m : Listing). Got m rest) (appended_again a b l)
front_again a b (Wrong n) = refl
front_again a b (Deep n) = refl

pub fails_after : {A B : Type 0} (e : Fail) (o : Out A) (g : A → Reader B) → Fails e o → Fails e (after o g)
fails_after fails.Memory o g f = tt
fails_after (fails.Syntax m) o g f = rw f refl
fails_after (fails.Nesting m) o g f = rw f refl

pub spots_pushed : (bs : List (Bor Leaf)) (b : Bor Leaf) → spots (bs ++ b ∷ []) ≡ spots bs ++ (spot_of b.now ∷ [])
spots_pushed [] b = refl
spots_pushed (c ∷ bs) b = ap (λ l. spot_of c.now ∷ l) (spots_pushed bs b)

module _ (test : Terminal → Bool) (p : Reader (Bool × Listing)) where
  pub list_stops : (a : Listing) (ts : List Leaf) → begins test ts ≡ false → with_front a (all_of test p ts) ≡ Got a ts
  list_stops a ts b = ap (with_front a) (all_stops test p ts b) ∙ ap (λ (l : Listing). Got l ts) (appended_empty a)

  module _ (shrink : Shrinks test p) where
    goes : (a : Listing) (ts : List Leaf) → begins test ts ≡ true →
        with_front a (all_of test p ts) ≡ with_front a (after (p ts) (onward test p))
    goes a ts b = ap (with_front a) (all_goes test p shrink ts b)

    -- what the loop keeps
    pub list_keeps : (acc next a : Listing) (ts rest : List Leaf) (total : Out Listing) → begins test ts ≡ true →
        p ts ≡ Got (true, a) rest → next ≡ appended acc a → with_front acc (all_of test p ts) ≡ total →
        with_front next (all_of test p rest) ≡ total
    list_keeps acc next a ts rest total b e n so_far =
        ap (λ l. with_front l (all_of test p rest)) n ∙ sym (front_again acc a (all_of test p rest)) ∙
        sym (ap (λ o. with_front acc (after o (onward test p))) e) ∙ sym (goes acc ts b) ∙ so_far

    -- after a member that says that it is the last
    pub list_ends : (acc next a : Listing) (ts rest : List Leaf) (total : Out Listing) → begins test ts ≡ true →
        p ts ≡ Got (false, a) rest → next ≡ appended acc a → with_front acc (all_of test p ts) ≡ total →
        total ≡ Got next rest
    list_ends acc next a ts rest total b e n so_far =
        sym so_far ∙ goes acc ts b ∙ ap (λ o. with_front acc (after o (onward test p))) e ∙
        ap (λ (l : Listing). Got l rest) (sym n)

    pub list_fails : (acc : Listing) (ts : List Leaf) (e : Fail) (total : Out Listing) → begins test ts ≡ true →
        Fails e (p ts) → with_front acc (all_of test p ts) ≡ total → Fails e total
    list_fails acc ts e total b f so_far =
        subst (λ o. Fails e o) (sym (goes acc ts b) ∙
        so_far) (fails_after e (after (p ts) (onward test p)) (λ l. done (appended acc l))
        (fails_after e (p ts) (onward test p) f))
