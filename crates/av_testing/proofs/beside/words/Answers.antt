use Rattle.std.specs.Prelude.{ℕ, List, [], ◌∷◌}
use Rattle.std.proofs.lemmas.List.Elements.{All-nil, All-cons}
use Rattle.av_base.specs.Words.{IsWord}
use Rattle.av_testing.proofs.beside.words.Goals as goal

pub returns : goal.returns
returns c =
    let P = IsWord c.args.width.bits in
    let last : List ℕ = c.word-8.result ∷ [] in
    let from_7 : List ℕ = c.word-7.result ∷ last in
    let from_6 : List ℕ = c.word-6.result ∷ from_7 in
    let from_5 : List ℕ = c.word-5.result ∷ from_6 in
    let from_4 : List ℕ = c.word-4.result ∷ from_5 in
    let from_3 : List ℕ = c.word-3.result ∷ from_4 in
    let from_2 : List ℕ = c.word-2.result ∷ from_3 in
    All-cons P c.word.result from_2 c.word.ensures (All-cons P c.word-2.result from_3 c.word-2.ensures (All-cons P c.word-3.result from_4 c.word-3.ensures
    (All-cons P c.word-4.result from_5 c.word-4.ensures (All-cons P c.word-5.result from_6 c.word-5.ensures (All-cons P c.word-6.result from_7 c.word-6.ensures
    (All-cons P c.word-7.result last c.word-7.ensures (All-cons P c.word-8.result [] c.word-8.ensures (All-nil P))))))))
