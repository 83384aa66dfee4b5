use Rattle.ls_words.proofs.numbers.+append_decimal.Given as goal

-- each call has a digit less to do
abbrev pub decreases-append_decimal : goal.decreases-append_decimal
decreases-append_decimal l = l.n
