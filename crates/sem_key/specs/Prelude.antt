-- What nearly all definitions above sem_key cite, passed on from one place. Declares nothing.
pub use Rattle.sem_key.specs.KeyName.{KeyName, key_eq}
pub use Rattle.sem_key.specs.Lists.{put}
