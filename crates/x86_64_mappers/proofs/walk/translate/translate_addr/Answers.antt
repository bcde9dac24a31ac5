use Rattle.x86_64_mappers.proofs.Translate.TranslatedAddresses.{stays}
use Rattle.x86_64_mappers.proofs.walk.translate.translate_addr.Goals as goal

pub physical_address-requires : goal.physical_address-requires
physical_address-requires g c = stays _ _ _ _ c.translate.ensures.answer
