-- Demand 3 holds of the implementation whose caches are lent words, since it holds of ours, whose caches they mean. Assumes nothing.
use Rattle.std.specs.Prelude.{refl}
use Rattle.unit.specs.Meaning.{cache_of}
use Rattle.unit.proofs.MeaningLaws.{Kept, anew_keeps, empty_means, empty_keeps, reads_as_meant, cached_read_leaves, hand_over_means, hand_over_leaves}
use Rattle.lists.specs.Ours.{ours}
use Rattle.lists.specs.InWords.{in_words}
use Rattle.lists.specs.Claim.{Demand3, Answers}
use Rattle.lists.specs.Meant.{Meant}
use Rattle.lists.specs.MeantLaws.{demand3_meant, answers_meant}
use Rattle.lists.proofs.Demand3Laws.{every_list_shades_alike, every_answer_is_the_machines}

words_meant : Meant ours in_words cache_of Kept
words_meant =
    record {
      writes = λ f t g r v. refl;
      restores = λ t g saved. refl;
      shades = λ b t q a. refl;
      empty = empty_means;
      empty_good = empty_keeps;
      reads = λ f c h. reads_as_meant f c h.long;
      read_good = λ f c h. cached_read_leaves f c Kept h (anew_keeps f);
      hands_over = λ f t g c b ct cg h. hand_over_means f t g c b ct cg h;
      handed_good = λ f t g c b ct cg h. hand_over_leaves f t g c b ct cg Kept h (anew_keeps f);
    }

pub every_list_shades_alike_in_words : Demand3 in_words
every_list_shades_alike_in_words = demand3_meant ours in_words cache_of Kept words_meant every_list_shades_alike

pub every_answer_is_the_machines_in_words : Answers in_words
every_answer_is_the_machines_in_words = answers_meant ours in_words cache_of Kept words_meant every_answer_is_the_machines
