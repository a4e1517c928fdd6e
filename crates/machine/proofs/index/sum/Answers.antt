-- The sum that a group is taken of is the library's.
use Rattle.std.proofs.Common.{◌≡◌, ℕ, List, [], ◌∷◌, refl, rules}
use Rattle.std.specs.List as S
use Rattle.std.proofs.lemmas.List.Sums.{sum_by-cons}
use Rattle.language.specs.Groups as G
use Rattle.machine.proofs.index.sum.Goals as goal

sum_is : (xs : List ℕ) → G.sum xs ≡ S.sum xs
unfolding G.sum
sum_is [] = refl
sum_is (x ∷ xs) = rw (sum_is xs, sum_by-cons (λ n. n) x xs)

pub returns : goal.returns
returns c = rw sum_is (search rules)
