-- Tables and numbered tokens, one entry at a time.
use Rattle.std.proofs.Common.{◌≡◌, ℕ, suc, ◌+◌, ◌<◌, List, [], ◌∷◌, ◌++◌, length, get_or, take, ap, ◌∙◌, arith}
use Rattle.std.proofs.lemmas.List.{length-take}
use Rattle.std.proofs.Math.Seq.{take-suc}
use Rattle.cl_token.specs.declared.token.Token.{Token}
use Rattle.cl_tree.specs.declared.terminal.Leaf.{Leaf}
use Rattle.cl_tree.specs.Words.{terminal_of}
use Rattle.cl_tree.specs.Leaves.{leaves_of}

leaves_append : (k : ℕ) (a b : List Token) → leaves_of k (a ++ b) ≡ leaves_of k a ++ leaves_of (k + length a) b
leaves_append k [] b = ap (λ m. leaves_of m b) (omega arith)
leaves_append k (t ∷ a) b =
    let e : leaves_of (suc k + length a) b ≡ leaves_of (k + suc (length a)) b = ap (λ m. leaves_of m b) (omega arith) in
    ap (λ (l : List Leaf). record { number = k; terminal = terminal_of t.kind t.word; word = t.word } ∷ l)
    (leaves_append (suc k) a b ∙ ap (λ l. leaves_of (suc k) a ++ l) e)

pub leaves_take : (i : ℕ) (ts : List Token) (d : Token) → i < length ts →
    leaves_of 0 (take (i + 1) ts) ≡ leaves_of 0 (take i ts) ++
    (record {
      number = i;
      terminal = terminal_of (get_or ts i d).kind (get_or ts i d).word;
      word = (get_or ts i d).word;
    } ∷ [])
leaves_take i ts d h =
    let one : i + 1 ≡ suc i = omega arith in
    let n : 0 + length (take i ts) ≡ i = omega (arith, length-take i ts) in
    ap (λ j. leaves_of 0 (take j ts)) one ∙ ap (leaves_of 0) (take-suc ts i d h) ∙
    leaves_append 0 (take i ts) (get_or ts i d ∷ [])
    ∙ ap (λ (j : ℕ). leaves_of 0 (take i ts) ++
    (record {
      number = j;
      terminal = terminal_of (get_or ts i d).kind (get_or ts i d).word;
      word = (get_or ts i d).word;
    } ∷ [])) n
