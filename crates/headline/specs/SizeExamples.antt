-- The text of runs with generated projects of some sizes, worked out by hand.
use Rattle.std.specs.Prelude.{◌≡◌, codes}
use Rattle.headline.specs.SaidOfSizes.{said_of_size}

-- The edit of the second package touches the packages whose number begins with 10 in base 2. Of ten packages these are 2, 4, 5, 8,
-- 9 and 10. Of 127 packages there is one with two digits, two with three, and so on up to 32 with seven. If there is only one
-- package, it is edited, and the bench uses it.
pub record SizeExamples : Type 0 where
  pub one : (said_of_size 1).text ≡ codes "files 2\nfirst build compiled 2\nsecond build compiled 2\ntests passed 2 of 2\n"
  pub ten : (said_of_size 10).text ≡ codes "files 11\nfirst build compiled 11\nsecond build compiled 6\ntests passed 2 of 2\n"
  pub many : (said_of_size 127).text ≡ codes "files 128\nfirst build compiled 128\nsecond build compiled 63\ntests passed 2 of 2\n"
